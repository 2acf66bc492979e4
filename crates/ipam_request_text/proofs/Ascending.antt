-- A test of each pair and the next tells whether all keys ascend.
use Rattle.std.proofs.Common.{◌≡◌, ℕ, ◌+◌, ◌<◌, List, [], length, get_or, IsTrue, ◌↔◌, Bool, true, false, ap, ◌∙◌, arith, refl, map}
use Rattle.std.specs.declared.cmp.Ordering.{Ordering}
use Rattle.std.specs.declared.cmp.Ordering.TheVariants.{Less, Equal, Greater}
use Rattle.std.specs.Ordering.{nat_cmp, is_lt}
use Rattle.std.specs.Cmp.Lexicographic.{slice_cmp, nat_list_cmp_total}
use Rattle.std.specs.List.{IsAllAdjacentAnswer}
use Rattle.std.specs.List.Sorted.{IsStrictlySortedBy}
use Rattle.std.proofs.Math.ListN.{get_or-map}
use Rattle.std.proofs.lemmas.List.{length-map}
use Rattle.std.proofs.lemmas.Map.Keys.{sorted_from_all_adjacent}
use Rattle.ipam_block.proofs.Entries.{key_below}
use Rattle.ipam_model.specs.Pairs.{Pair}

less : (r : Ordering) → true ≡ is_lt r → r ≡ Less
less Less e = refl
less Equal e = cc e
less Greater e = cc e

pub ascend-told : (es : List Pair) (r : Bool) → IsAllAdjacentAnswer (λ x y b. b ≡ is_lt (slice_cmp nat_cmp x.0 y.0)) es r → IsTrue r ↔ IsStrictlySortedBy (slice_cmp nat_cmp) (map (λ p. p.0) es)
ascend-told es true told =
    (λ _. sorted_from_all_adjacent nat_list_cmp_total (map (λ p. p.0) es) [] adjacent, λ _. refl)
  where
    adjacent : (k : ℕ) → k + 1 < length (map (λ (p : Pair). p.0) es) → slice_cmp nat_cmp (get_or (map (λ (p : Pair). p.0) es) k []) (get_or (map (λ (p : Pair). p.0) es) (k + 1) []) ≡ Less
    adjacent k within =
        let d : Pair = ([], []) in
        let key : Pair → List ℕ = λ p. p.0 in
        let long = length-map es key in
        let below : slice_cmp nat_cmp (get_or es k d).0 (get_or es (k + 1) d).0 ≡ Less = less _ (told k d (omega (arith, long))) in
        (λ i. slice_cmp nat_cmp (get_or-map key es k d i) (get_or-map key es (k + 1) d i)) ∙ below
ascend-told es false (k, within, told) = (
  λ h. absurd (cc h),
  λ s. absurd (
      let d : Pair = ([], []) in
      let below = key_below (slice_cmp nat_cmp) es k (k + 1) d s (omega arith) within in
      let test : false ≡ true = told d ∙ ap is_lt below in
      cc test),
)
