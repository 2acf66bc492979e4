-- Ascending lists with an item more or an item less.
use Rattle.std.proofs.Common.{◌≡◌, ℕ, zero, suc, ◌<◌, List, [], ◌∷◌, length, get_or, map, Bool, true, false, not, cond, ◌||◌, Result, IfOk, IfErr, inl, inr, ap, sym, ◌∙◌, subst, arith, refl}
use Rattle.std.proofs.lemmas.Bool.{cases_lt}
use Rattle.std.proofs.lemmas.List.{map-id}
use Rattle.std.proofs.lemmas.Map.Keys.{sorted_tail}
use Rattle.std.specs.declared.cmp.Ordering.{Ordering}
use Rattle.std.specs.declared.cmp.Ordering.TheVariants.{Less, Equal, Greater}
use Rattle.std.specs.BTreeSet.{insert_key}
use Rattle.std.specs.Cmp.{IsTotalOrder}
use Rattle.std.specs.Ordering.{is_eq, ordering_reverse, match_ordering}
use Rattle.std.specs.List.{AllByRecursion, filter, insert, remove, list_any}
use Rattle.std.specs.List.Sorted.{IsStrictlySortedBy, IsSearchInRange, IsBinarySearchResult}
use Rattle.ipam_records.specs.Places.{IsFoundAt, IsGapAt}
use Rattle.ipam_records.proofs.SearchLemmas as search_among

module _ {K : Type 0} (cmp : K → K → Ordering) (total : IsTotalOrder cmp) where
  as_keys : (xs : List K) → IsStrictlySortedBy cmp xs → IsStrictlySortedBy cmp (map (λ x. x) xs)
  as_keys xs = subst (IsStrictlySortedBy cmp) (sym (map-id xs))

  pub searched : (xs : List K) → IsStrictlySortedBy cmp xs → (c : K) (r : Result ℕ ℕ) → IsSearchInRange r (length xs) → IsBinarySearchResult (λ x. cmp x c) xs r → record { found : IfOk r (IsFoundAt (λ x. cmp x c) xs); absent : IfErr r (IsGapAt (λ x. cmp x c) xs) }
  searched xs s c = search_among.searched cmp total (λ x. x) xs (as_keys xs s) c

  -- ---- the order
  pub later : (x y : K) → cmp x y ≡ Less → (xs : List K) → AllByRecursion (λ z. cmp y z ≡ Less) xs → AllByRecursion (λ z. cmp x z ≡ Less) xs
  later x y h [] all = tt
  later x y h (z ∷ zs) all = (total.trans x y z h all.0, later x y h zs all.1)

  all-with : (P : K → Type 0) (c : K) (xs : List K) → P c → AllByRecursion P xs → AllByRecursion P (insert_key cmp xs c)
  all-with P c [] p all = (p, tt)
  all-with P c (x ∷ xs) p all = elim (cmp c x) as (λ o. AllByRecursion P (match_ordering o (c ∷ x ∷ xs) (x ∷ xs) (x ∷ insert_key cmp xs c))) [
    | Less ↦ (p, all)
    | Equal ↦ all
    | Greater ↦ (all.0, all-with P c xs p all.1)
  ]

  pub ascends-with : (c : K) (xs : List K) → IsStrictlySortedBy cmp xs → IsStrictlySortedBy cmp (insert_key cmp xs c)
  unfolding IsStrictlySortedBy
  ascends-with c [] s = (tt, tt)
  ascends-with c (x ∷ xs) s = by_order (ascends-with c xs s.1) (cmp c x) refl
    where
      by_order : IsStrictlySortedBy cmp (insert_key cmp xs c) → (o : Ordering) → cmp c x ≡ o → IsStrictlySortedBy cmp (match_ordering o (c ∷ x ∷ xs) (x ∷ xs) (x ∷ insert_key cmp xs c))
      by_order rest Less h = ((h, later c x h xs s.0), s)
      by_order rest Equal h = s
      by_order rest Greater h = (all-with (λ z. cmp x z ≡ Less) c xs (total.antisymm x c ∙ ap ordering_reverse h) s.0, rest)

  -- an item below all others comes first
  pub front_with : (c : K) (xs : List K) → AllByRecursion (λ x. cmp c x ≡ Less) xs → insert_key cmp xs c ≡ c ∷ xs
  front_with c [] all = refl
  front_with c (x ∷ xs) all = ap (λ o. match_ordering o (c ∷ x ∷ xs) (x ∷ xs) (x ∷ insert_key cmp xs c)) all.0

  -- ---- what a search found
  module _ (c : K) where
    abbrev pub without : List K → List K
    without = filter (λ x. not (is_eq (cmp x c)))

    reversed : (x : K) (o : Ordering) → cmp x c ≡ o → cmp c x ≡ ordering_reverse o
    reversed x o e = total.antisymm c x ∙ ap ordering_reverse e

    with_step : (x : K) (xs : List K) (o : Ordering) → cmp x c ≡ o → insert_key cmp (x ∷ xs) c ≡ match_ordering (ordering_reverse o) (c ∷ x ∷ xs) (x ∷ xs) (x ∷ insert_key cmp xs c)
    with_step x xs o e = ap (λ v. match_ordering v (c ∷ x ∷ xs) (x ∷ xs) (x ∷ insert_key cmp xs c)) (reversed x o e)

    without_step : (x : K) (xs : List K) (o : Ordering) → cmp x c ≡ o → without (x ∷ xs) ≡ cond (not (is_eq o)) (x ∷ without xs) (without xs)
    without_step x xs o e = ap (λ v. cond (not (is_eq v)) (x ∷ without xs) (without xs)) e

    found_later : (x : K) (xs : List K) (i : ℕ) → IsFoundAt (λ y. cmp y c) (x ∷ xs) (suc i) → IsFoundAt (λ y. cmp y c) xs i
    found_later x xs i found = let within = found.within in record { within = omega arith; same = found.same }

    gap_later : (x : K) (xs : List K) (i : ℕ) → IsGapAt (λ y. cmp y c) (x ∷ xs) (suc i) → IsGapAt (λ y. cmp y c) xs i
    gap_later x xs i gap = let within = gap.within in record {
      within = omega arith;
      before = λ j d h. gap.before (suc j) d (omega arith);
      behind = λ j d h m. gap.behind (suc j) d (omega arith) (omega arith);
    }

    first_less : (x : K) (xs : List K) (i : ℕ) → IsStrictlySortedBy cmp (x ∷ xs) → IsFoundAt (λ y. cmp y c) (x ∷ xs) (suc i) → cmp x c ≡ Less
    first_less x xs i s found = search_among.before_found cmp total (λ y. y) (x ∷ xs) (as_keys (x ∷ xs) s) c (suc i) found 0 x (omega arith)

    pub insert-with : (xs : List K) (i : ℕ) → IsGapAt (λ x. cmp x c) xs i → insert xs i c ≡ insert_key cmp xs c
    insert-with [] zero gap = refl
    insert-with [] (suc i) gap = let within = gap.within in absurd (omega arith)
    insert-with (x ∷ xs) zero gap = sym (with_step x xs Greater (gap.behind 0 x (omega arith) (omega arith)))
    insert-with (x ∷ xs) (suc i) gap =
        ap (λ ys. x ∷ ys) (insert-with xs i (gap_later x xs i gap)) ∙ sym (with_step x xs Less (gap.before 0 x (omega arith)))

    pub same-with : (xs : List K) (i : ℕ) → IsStrictlySortedBy cmp xs → IsFoundAt (λ x. cmp x c) xs i → xs ≡ insert_key cmp xs c
    same-with [] i s found = let within = found.within in absurd (omega arith)
    same-with (x ∷ xs) zero s found = sym (with_step x xs Equal (found.same x))
    same-with (x ∷ xs) (suc i) s found =
        ap (λ ys. x ∷ ys) (same-with xs i (sorted_tail cmp _ _ s) (found_later x xs i found))
        ∙ sym (with_step x xs Less (first_less x xs i s found))

    none_without : (xs : List K) → ((j : ℕ) (d : K) → j < length xs → is_eq (cmp (get_or xs j d) c) ≡ false) → xs ≡ without xs
    none_without [] differ = refl
    none_without (x ∷ xs) differ =
        ap (λ ys. x ∷ ys) (none_without xs (λ j d h. differ (suc j) d (omega arith)))
        ∙ sym (ap (λ b. cond (not b) (x ∷ without xs) (without xs)) (differ 0 x (omega arith)))

    none_at : (xs : List K) (i : ℕ) → IsGapAt (λ x. cmp x c) xs i → (j : ℕ) (d : K) → j < length xs → is_eq (cmp (get_or xs j d) c) ≡ false
    none_at xs i gap j d h = elim (cases_lt j i) [
      | inl before ↦ ap is_eq (gap.before j d before)
      | inr behind ↦ ap is_eq (gap.behind j d behind h)
    ]

    pub same-without : (xs : List K) (i : ℕ) → IsGapAt (λ x. cmp x c) xs i → xs ≡ without xs
    same-without xs i gap = none_without xs (none_at xs i gap)

    pub remove-without : (xs : List K) (i : ℕ) → IsStrictlySortedBy cmp xs → IsFoundAt (λ x. cmp x c) xs i → remove xs i ≡ without xs
    remove-without [] i s found = let within = found.within in absurd (omega arith)
    remove-without (x ∷ xs) zero s found =
        none_without xs (λ j d h. ap is_eq (search_among.behind_found cmp total (λ y. y) (x ∷ xs) (as_keys (x ∷ xs) s) c 0 found (suc j) d (omega arith) (omega arith)))
        ∙ sym (without_step x xs Equal (found.same x))
    remove-without (x ∷ xs) (suc i) s found =
        ap (λ ys. x ∷ ys) (remove-without xs i (sorted_tail cmp _ _ s) (found_later x xs i found))
        ∙ sym (without_step x xs Less (first_less x xs i s found))

    -- ---- whether it is there
    abbrev pub is_among : List K → Bool
    is_among = list_any (λ x. is_eq (cmp x c))

    pub among-found : (xs : List K) (i : ℕ) → IsFoundAt (λ x. cmp x c) xs i → is_among xs ≡ true
    among-found [] i found = let within = found.within in absurd (omega arith)
    among-found (x ∷ xs) zero found = ap (λ o. is_eq o || is_among xs) (found.same x)
    among-found (x ∷ xs) (suc i) found =
        let rest = among-found xs i (found_later x xs i found) in
        elim (is_eq (cmp x c)) as (λ b. (b || is_among xs) ≡ true) [ true ↦ refl | false ↦ rest ]

    pub among-gap : (xs : List K) (i : ℕ) → IsGapAt (λ x. cmp x c) xs i → is_among xs ≡ false
    among-gap xs i gap = none xs (none_at xs i gap)
      where
        none : (xs : List K) → ((j : ℕ) (d : K) → j < length xs → is_eq (cmp (get_or xs j d) c) ≡ false) → is_among xs ≡ false
        none [] differ = refl
        none (x ∷ xs) differ = ap (λ b. b || is_among xs) (differ 0 x (omega arith)) ∙ none xs (λ j d h. differ (suc j) d (omega arith))
