-- Key texts of which each is below the next ascend.
use Rattle.std.proofs.Common.{◌≡◌, ℕ, suc, ◌+◌, true, List, [], ◌∷◌, map, length, refl, subst, slice_index_or, arith}
use Rattle.std.specs.declared.cmp.Ordering.{Ordering}
use Rattle.std.specs.declared.cmp.Ordering.TheVariants.{Less, Equal, Greater}
use Rattle.std.specs.Cmp.Lexicographic.{slice_cmp}
use Rattle.std.specs.List.{AllAdjacentBelow, AllByRecursion}
use Rattle.std.specs.List.Sorted.{IsStrictlySortedBy}
use Rattle.std.specs.Ordering.{nat_cmp, is_lt}
use Rattle.std.proofs.lemmas.Cmp.{nat_list_cmp_total}

below : (a b : List ℕ) → slice_cmp nat_cmp a b ≡ Less → (ks : List (List ℕ)) → AllByRecursion (λ k. slice_cmp nat_cmp b k ≡ Less) ks → AllByRecursion (λ k. slice_cmp nat_cmp a k ≡ Less) ks
below a b e [] h = tt
below a b e (k ∷ ks) h = (nat_list_cmp_total.trans a b k e h.0, below a b e ks h.1)

is-less : (o : Ordering) → true ≡ is_lt o → o ≡ Less
is-less Less e = refl
is-less Equal e = absurd (cc e)
is-less Greater e = absurd (cc e)

-- each key is below all that follow where it is below the next
pub ascend : {X : Type 0} (key : X → List ℕ) (xs : List X) → AllAdjacentBelow (λ x y. true ≡ is_lt (slice_cmp nat_cmp (key x) (key y))) xs (length xs) → IsStrictlySortedBy (slice_cmp nat_cmp) (map key xs)
unfolding IsStrictlySortedBy
ascend key [] h = tt
ascend key (x ∷ []) h = (tt, tt)
ascend key (x ∷ y ∷ rest) h =
    let behind = ascend key (y ∷ rest) (λ k d w.
    let next : suc k + 1 ≡ suc (k + 1) = omega arith in
    subst (λ (j : ℕ). true ≡ is_lt (slice_cmp nat_cmp (key (slice_index_or (x ∷ y ∷ rest) (suc k) d)) (key (slice_index_or (x ∷ y ∷ rest) j d)))) next (h (suc k) d (omega arith))) in
    let first = is-less (slice_cmp nat_cmp (key x) (key y)) (h 0 x (omega arith)) in
    ((first, below (key x) (key y) first (map key rest) behind.0), behind)
