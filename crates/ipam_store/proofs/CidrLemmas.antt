-- What a search among CIDRs finds, and what a write at that place does.
use Rattle.std.proofs.Common.{◌≡◌, ℕ, zero, suc, ◌<◌, List, [], ◌∷◌, length, get_or, map, not, cond, false, Result, IfOk, IfErr, inl, inr, ap, sym, ◌∙◌, subst, arith, refl}
use Rattle.std.proofs.lemmas.Bool.{cases_lt}
use Rattle.std.proofs.lemmas.List.{map-id}
use Rattle.std.proofs.lemmas.List.Kept.{IsStrictlySortedBy-filter}
use Rattle.std.specs.declared.cmp.Ordering.{Ordering}
use Rattle.std.specs.declared.cmp.Ordering.TheVariants.{Less, Equal, Greater}
use Rattle.std.specs.Ordering.{is_eq, ordering_reverse, match_ordering}
use Rattle.std.specs.List.{insert, remove}
use Rattle.std.specs.List.Sorted.{IsSearchInRange, IsBinarySearchResult}
use Rattle.std.proofs.lemmas.Map.Keys.{sorted_tail}
use Rattle.ipam_addr.specs.Shape.{CidrValue}
use Rattle.ipam_block.specs.Order.{cidr_cmp}
use Rattle.ipam_records.specs.KeyOrderLaws.{cidr_cmp_total}
use Rattle.ipam_records.specs.Places.{IsFoundAt, IsGapAt}
use Rattle.ipam_records.proofs.SearchLemmas as search_among
use Rattle.ipam_store.specs.CidrLists.{CidrsAscend, with_cidr, without_cidr}
use Rattle.ipam_store.proofs.Ordered.{ascends-insert}

as_keys : (xs : List CidrValue) → CidrsAscend xs → CidrsAscend (map (λ x. x) xs)
as_keys xs = subst CidrsAscend (sym (map-id xs))

pub cidrs_searched : (xs : List CidrValue) → CidrsAscend xs → (c : CidrValue) (r : Result ℕ ℕ) → IsSearchInRange r (length xs) → IsBinarySearchResult (λ x. cidr_cmp x c) xs r → record { found : IfOk r (IsFoundAt (λ x. cidr_cmp x c) xs); absent : IfErr r (IsGapAt (λ x. cidr_cmp x c) xs) }
cidrs_searched xs s c = search_among.searched cidr_cmp cidr_cmp_total (λ x. x) xs (as_keys xs s) c

module _ (c : CidrValue) where
  reversed : (x : CidrValue) (o : Ordering) → cidr_cmp x c ≡ o → cidr_cmp c x ≡ ordering_reverse o
  reversed x o e = cidr_cmp_total.antisymm c x ∙ ap ordering_reverse e

  with_step : (x : CidrValue) (xs : List CidrValue) (o : Ordering) → cidr_cmp x c ≡ o → with_cidr c (x ∷ xs) ≡ match_ordering (ordering_reverse o) (c ∷ x ∷ xs) (x ∷ xs) (x ∷ with_cidr c xs)
  with_step x xs o e = ap (λ v. match_ordering v (c ∷ x ∷ xs) (x ∷ xs) (x ∷ with_cidr c xs)) (reversed x o e)

  without_step : (x : CidrValue) (xs : List CidrValue) (o : Ordering) → cidr_cmp x c ≡ o → without_cidr c (x ∷ xs) ≡ cond (not (is_eq o)) (x ∷ without_cidr c xs) (without_cidr c xs)
  without_step x xs o e = ap (λ v. cond (not (is_eq v)) (x ∷ without_cidr c xs) (without_cidr c xs)) e

  found_later : (x : CidrValue) (xs : List CidrValue) (i : ℕ) → IsFoundAt (λ y. cidr_cmp y c) (x ∷ xs) (suc i) → IsFoundAt (λ y. cidr_cmp y c) xs i
  found_later x xs i found = let within = found.within in record { within = omega arith; same = found.same }

  first_less : (x : CidrValue) (xs : List CidrValue) (i : ℕ) → CidrsAscend (x ∷ xs) → IsFoundAt (λ y. cidr_cmp y c) (x ∷ xs) (suc i) → cidr_cmp x c ≡ Less
  first_less x xs i s found = search_among.before_found cidr_cmp cidr_cmp_total (λ y. y) (x ∷ xs) (as_keys (x ∷ xs) s) c (suc i) found 0 x (omega arith)

  pub insert-with_cidr : (xs : List CidrValue) (i : ℕ) → IsGapAt (λ x. cidr_cmp x c) xs i → insert xs i c ≡ with_cidr c xs
  insert-with_cidr [] zero gap = refl
  insert-with_cidr [] (suc i) gap = let within = gap.within in absurd (omega arith)
  insert-with_cidr (x ∷ xs) zero gap = sym (with_step x xs Greater (gap.behind 0 x (omega arith) (omega arith)))
  insert-with_cidr (x ∷ xs) (suc i) gap =
      let within = gap.within in
      let rest : IsGapAt (λ z. cidr_cmp z c) xs i = record {
        within = omega arith;
        before = λ j d h. gap.before (suc j) d (omega arith);
        behind = λ j d h m. gap.behind (suc j) d (omega arith) (omega arith);
      } in
      ap (λ ys. x ∷ ys) (insert-with_cidr xs i rest) ∙ sym (with_step x xs Less (gap.before 0 x (omega arith)))

  pub same-with_cidr : (xs : List CidrValue) (i : ℕ) → CidrsAscend xs → IsFoundAt (λ x. cidr_cmp x c) xs i → xs ≡ with_cidr c xs
  same-with_cidr [] i s found = let within = found.within in absurd (omega arith)
  same-with_cidr (x ∷ xs) zero s found = sym (with_step x xs Equal (found.same x))
  same-with_cidr (x ∷ xs) (suc i) s found =
      ap (λ ys. x ∷ ys) (same-with_cidr xs i (sorted_tail cidr_cmp _ _ s) (found_later x xs i found))
      ∙ sym (with_step x xs Less (first_less x xs i s found))

  none_without : (xs : List CidrValue) → ((j : ℕ) (d : CidrValue) → j < length xs → is_eq (cidr_cmp (get_or xs j d) c) ≡ false) → xs ≡ without_cidr c xs
  none_without [] differ = refl
  none_without (x ∷ xs) differ =
      ap (λ ys. x ∷ ys) (none_without xs (λ j d h. differ (suc j) d (omega arith)))
      ∙ sym (ap (λ b. cond (not b) (x ∷ without_cidr c xs) (without_cidr c xs)) (differ 0 x (omega arith)))

  pub same-without_cidr : (xs : List CidrValue) (i : ℕ) → IsGapAt (λ x. cidr_cmp x c) xs i → xs ≡ without_cidr c xs
  same-without_cidr xs i gap = none_without xs (λ j d h. elim (cases_lt j i) [
    | inl before ↦ ap is_eq (gap.before j d before)
    | inr behind ↦ ap is_eq (gap.behind j d behind h)
  ])

  pub remove-without_cidr : (xs : List CidrValue) (i : ℕ) → CidrsAscend xs → IsFoundAt (λ x. cidr_cmp x c) xs i → remove xs i ≡ without_cidr c xs
  remove-without_cidr [] i s found = let within = found.within in absurd (omega arith)
  remove-without_cidr (x ∷ xs) zero s found =
      none_without xs (λ j d h. ap is_eq (search_among.behind_found cidr_cmp cidr_cmp_total (λ y. y) (x ∷ xs) (as_keys (x ∷ xs) s) c 0 found (suc j) d (omega arith) (omega arith)))
      ∙ sym (without_step x xs Equal (found.same x))
  remove-without_cidr (x ∷ xs) (suc i) s found =
      ap (λ ys. x ∷ ys) (remove-without_cidr xs i (sorted_tail cidr_cmp _ _ s) (found_later x xs i found))
      ∙ sym (without_step x xs Less (first_less x xs i s found))

pub CidrsAscend-insert : (c : CidrValue) (xs : List CidrValue) (i : ℕ) → CidrsAscend xs → IsGapAt (λ x. cidr_cmp x c) xs i → CidrsAscend (insert xs i c)
CidrsAscend-insert c xs i s gap = subst CidrsAscend (map-id (insert xs i c)) (ascends-insert cidr_cmp cidr_cmp_total (λ x. x) xs i c (as_keys xs s) gap)

pub CidrsAscend-without : (c : CidrValue) (xs : List CidrValue) → CidrsAscend xs → CidrsAscend (without_cidr c xs)
CidrsAscend-without c xs s = IsStrictlySortedBy-filter cidr_cmp (λ x. not (is_eq (cidr_cmp x c))) xs s
