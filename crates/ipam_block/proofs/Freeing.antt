-- A block stays a block where some of its allocations are freed.
use Rattle.std.proofs.Common.{◌≡◌, ℕ, ◌+◌, ◌<◌, ◌≤◌, Bool, true, false, not, ◌||◌, cond, List, [], ◌∷◌, ◌++◌, sym, arith, refl, subst, append_assoc}
use Rattle.std.specs.Prelude.{filter, count_by, nat_lt}
use Rattle.std.specs.List.{list_any}
use Rattle.std.proofs.lemmas.Bool.{lt-ltb}
use Rattle.std.proofs.lemmas.List.Sums.{sum_by-cons}
use Rattle.std.specs.List.Sorted.{IsPermutation}
use Rattle.std.proofs.lemmas.List.{map-append}
use Rattle.std.proofs.lemmas.List.Elements.{All-filter}
use Rattle.std.proofs.lemmas.List.Kept.{AllPairs-filter}
use Rattle.std.proofs.lemmas.List.Sorted.{IsPermutation-trans, IsPermutation-append_left, IsPermutation-append_right, IsPermutation-append_comm, IsPermutation-map, IsPermutation-filter_both}
use Rattle.ipam_block.specs.declared.allocation.Allocation.{Allocation}
use Rattle.ipam_block.specs.Shape.{BlockValue}
use Rattle.ipam_block.specs.Sound.{IsBlock, held_ordinals}
use Rattle.ipam_block.specs.Operations.{block_without}

-- what is kept, then the queue, then what is freed: the same ordinals as before
freed-shares : (test : Allocation → Bool) (xs : List Allocation) (queue : List ℕ) → IsPermutation (held_ordinals xs ++ queue) (held_ordinals (filter (λ a. not (test a)) xs) ++ (queue ++ held_ordinals (filter test xs)))
freed-shares test xs queue =
    let kept = filter (λ a. not (test a)) xs in
    let gone = filter test xs in
    let apart : IsPermutation xs (kept ++ gone) =
    IsPermutation-trans xs (gone ++ kept) (kept ++ gone)
    (IsPermutation-filter_both test (λ a. not (test a)) (λ _. refl) xs)
    (IsPermutation-append_comm gone kept) in
    let ordinals : IsPermutation (held_ordinals xs) (held_ordinals kept ++ held_ordinals gone) =
    subst (λ (l : List ℕ). IsPermutation (held_ordinals xs) l)
    (map-append (λ (a : Allocation). a.ordinal) kept gone)
    (IsPermutation-map (λ a. a.ordinal) xs (kept ++ gone) apart) in
    let swapped : IsPermutation (held_ordinals kept ++ (held_ordinals gone ++ queue)) (held_ordinals kept ++ (queue ++ held_ordinals gone)) =
    IsPermutation-append_right (held_ordinals kept) _ _
    (IsPermutation-append_comm (held_ordinals gone) queue) in
    let front : IsPermutation (held_ordinals xs ++ queue) (held_ordinals kept ++ (held_ordinals gone ++ queue)) =
    subst (λ (l : List ℕ). IsPermutation (held_ordinals xs ++ queue) l)
    (append_assoc (held_ordinals kept) (held_ordinals gone) queue)
    (IsPermutation-append_left queue _ _ ordinals) in
    IsPermutation-trans _ _ _ front swapped

pub IsBlock-freed : (test : Allocation → Bool) (b : BlockValue) → IsBlock b → IsBlock (block_without test b)
IsBlock-freed test b h = record {
  range = h.range;
  small = h.small;
  ascending = AllPairs-filter (λ x y. x.ordinal < y.ordinal) (λ a. not (test a)) b.allocations h.ascending;
  each_once = IsPermutation-trans _ _ _ h.each_once (freed-shares test b.allocations b.queue);
  stamped = All-filter (λ a. not (test a)) (λ a. (0 < a.stamp) × (a.stamp ≤ b.sequence)) b.allocations h.stamped;
}

-- some pass the test where their count is not 0
pub list_any-count : (test : Allocation → Bool) (xs : List Allocation) → nat_lt 0 (count_by test xs) ≡ list_any test xs
list_any-count test [] = refl
list_any-count test (x ∷ xs) =
    let one : Bool → ℕ = λ v. cond v 1 0 in
    let both = sum_by-cons (λ y. one (test y)) x xs in
    let P : ℕ → Type 0 = λ n. nat_lt 0 n ≡ list_any test (x ∷ xs) in
    subst P (sym both)
    (elim (test x) as (λ v. nat_lt 0 (one v + count_by test xs) ≡ (v || list_any test xs)) [
      | true ↦ lt-ltb 0 (1 + count_by test xs) (omega arith)
      | false ↦
          let none : 0 + count_by test xs ≡ count_by test xs = omega arith in
          rw none (list_any-count test xs)
    ])
