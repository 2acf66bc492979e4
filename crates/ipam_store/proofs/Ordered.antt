-- Lists whose keys ascend, with one more item or one less.
use Rattle.std.proofs.Common.{◌≡◌, ℕ, zero, suc, ◌<◌, ◌≤◌, List, [], ◌∷◌, length, get_or, map, ap, ◌∙◌, arith}
use Rattle.std.specs.declared.cmp.Ordering.{Ordering}
use Rattle.std.specs.declared.cmp.Ordering.TheVariants.{Less}
use Rattle.std.specs.Ordering.{ordering_reverse}
use Rattle.std.specs.Cmp.{IsTotalOrder}
use Rattle.std.specs.List.{AllByRecursion, insert, remove}
use Rattle.std.specs.List.Sorted.{IsStrictlySortedBy}
use Rattle.ipam_records.specs.Places.{IsGapAt}

module _ {X K : Type 0} (cmp : K → K → Ordering) (total : IsTotalOrder cmp) (key : X → K) where
  all_from_at : (P : K → Type 0) (xs : List X) → ((j : ℕ) (d : X) → j < length xs → P (key (get_or xs j d))) → AllByRecursion P (map key xs)
  all_from_at P [] each = tt
  all_from_at P (x ∷ xs) each = (each 0 x (omega arith), all_from_at P xs (λ j d h. each (suc j) d (omega arith)))

  all-insert : (P : K → Type 0) (xs : List X) (i : ℕ) (y : X) → i ≤ length xs → P (key y) → AllByRecursion P (map key xs) → AllByRecursion P (map key (insert xs i y))
  all-insert P xs zero y h p all = (p, all)
  all-insert P [] (suc i) y h p all = absurd (omega arith)
  all-insert P (x ∷ xs) (suc i) y h p all = (all.0, all-insert P xs i y (omega arith) p all.1)

  all-remove : (P : K → Type 0) (xs : List X) (i : ℕ) → i < length xs → AllByRecursion P (map key xs) → AllByRecursion P (map key (remove xs i))
  all-remove P [] i h all = absurd (omega arith)
  all-remove P (x ∷ xs) zero h all = all.1
  all-remove P (x ∷ xs) (suc i) h all = (all.0, all-remove P xs i (omega arith) all.1)

  -- an item goes into the gap for it
  pub ascends-insert : (xs : List X) (i : ℕ) (y : X) → IsStrictlySortedBy cmp (map key xs) → IsGapAt (λ x. cmp (key x) (key y)) xs i → IsStrictlySortedBy cmp (map key (insert xs i y))
  unfolding IsStrictlySortedBy
  ascends-insert xs zero y s gap =
      (all_from_at (λ k. cmp (key y) k ≡ Less) xs (λ j d h. total.antisymm (key y) (key (get_or xs j d)) ∙ ap ordering_reverse (gap.behind j d (omega arith) h)), s)
  ascends-insert [] (suc i) y s gap = let within = gap.within in absurd (omega arith)
  ascends-insert (x ∷ xs) (suc i) y s gap =
      let within = gap.within in
      let rest : IsGapAt (λ z. cmp (key z) (key y)) xs i = record {
        within = omega arith;
        before = λ j d h. gap.before (suc j) d (omega arith);
        behind = λ j d h m. gap.behind (suc j) d (omega arith) (omega arith);
      } in
      (all-insert (λ k. cmp (key x) k ≡ Less) xs i y (omega arith) (gap.before 0 x (omega arith)) s.0, ascends-insert xs i y s.1 rest)

  pub ascends-remove : (xs : List X) (i : ℕ) → i < length xs → IsStrictlySortedBy cmp (map key xs) → IsStrictlySortedBy cmp (map key (remove xs i))
  unfolding IsStrictlySortedBy
  ascends-remove [] i h s = absurd (omega arith)
  ascends-remove (x ∷ xs) zero h s = s.1
  ascends-remove (x ∷ xs) (suc i) h s = (all-remove (λ k. cmp (key x) k ≡ Less) xs i (omega arith) s.0, ascends-remove xs i (omega arith) s.1)
