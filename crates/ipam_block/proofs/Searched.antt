-- What a search among the held ordinals finds.
use Rattle.std.proofs.Common.{◌≡◌, ◌≢◌, ◌∙◌, ℕ, zero, suc, ◌<◌, ◌≤◌, Bool, true, false, List, [], ◌∷◌, length, get_or, None, Result, Ok, Err, IfOk, IfErr, Ordering, Less, Equal, Greater, nat_cmp, inl, inr, refl, sym, ap, subst, arith, eq-eqb, ne_eqb, ◌||◌}
use Rattle.std.specs.Prelude.{find, nat_lt, ◌==◌, count_by, slice_get, is_ok, OnErr}
use Rattle.std.specs.List.{list_any}
use Rattle.std.specs.List.Sorted.{IsSearchInRange, IsBinarySearchResult, IsNonDecreasingBy}
use Rattle.std.specs.Ordering.{ordering_index, MatchOrdering}
use Rattle.std.specs.Cmp.{nat_cmp_is}
use Rattle.std.proofs.lemmas.Bool.{cases_lt}
use Rattle.ipam_block.specs.declared.allocation.Allocation.{Allocation}
use Rattle.ipam_block.proofs.Ascending.{Ascend, lower_count, lower_count-is, lower_count-le, in_front, behind}

-- what a comparison of numbers tells
told : (x y : ℕ) (r : Ordering) → nat_cmp x y ≡ r → MatchOrdering r (x < y) (x ≡ y) (y < x)
told x y r e =
    elim (cases_lt x y) [
      | inl below ↦ let P : Ordering → Type 0 = λ s. MatchOrdering s (x < y) (x ≡ y) (y < x) in subst P (nat_cmp_is x y Less below ∙ e) below
      | inr reached ↦ elim (cases_lt y x) [
        | inl above ↦ let P : Ordering → Type 0 = λ s. MatchOrdering s (x < y) (x ≡ y) (y < x) in subst P (nat_cmp_is x y Greater above ∙ e) above
        | inr met ↦
            let same : x ≡ y = omega arith in
            let P : Ordering → Type 0 = λ s. MatchOrdering s (x < y) (x ≡ y) (y < x) in
            subst P (nat_cmp_is x y Equal same ∙ e) same
      ]
    ]

index_le_two : (r : Ordering) → ordering_index r ≤ 2
index_le_two Less = omega arith
index_le_two Equal = omega arith
index_le_two Greater = omega arith

rises : (x y o : ℕ) → x ≤ y → ordering_index (nat_cmp x o) ≤ ordering_index (nat_cmp y o)
rises x y o below =
    let two = index_le_two (nat_cmp x o) in
    elim (cases_lt x o) [
      | inl low ↦ let least = ap ordering_index (nat_cmp_is x o Less low) in omega arith
      | inr high ↦ elim (cases_lt o y) [
        | inl over ↦ let most = ap ordering_index (nat_cmp_is y o Greater over) in omega arith
        | inr under ↦
            let same : x ≡ y = omega arith in
            let e = ap (λ n. ordering_index (nat_cmp n o)) same in
            omega arith
      ]
    ]

-- ---- by index

find-at : (o : ℕ) (xs : List Allocation) (i : ℕ) → i < length xs → ((k : ℕ) (d : Allocation) → k < i → (get_or xs k d).ordinal ≢ o) → ((d : Allocation) → (get_or xs i d).ordinal ≡ o) → find (λ a. a.ordinal == o) xs ≡ slice_get xs i
find-at o [] i within others here = absurd (omega arith)
find-at o (x ∷ xs) zero within others here = rw (eq-eqb x.ordinal o (here x)) refl
find-at o (x ∷ xs) (suc i) within others here =
    rw (ne_eqb x.ordinal o (others 0 x (omega arith)))
    (find-at o xs i (omega arith) (λ k d before. others (suc k) d (omega arith)) here)

find-none : (o : ℕ) (xs : List Allocation) → ((k : ℕ) (d : Allocation) → k < length xs → (get_or xs k d).ordinal ≢ o) → find (λ a. a.ordinal == o) xs ≡ None
find-none o [] others = refl
find-none o (x ∷ xs) others =
    rw (ne_eqb x.ordinal o (others 0 x (omega arith)))
    (find-none o xs (λ k d within. others (suc k) d (omega arith)))

any-at : (o : ℕ) (xs : List Allocation) (i : ℕ) → i < length xs → ((d : Allocation) → (get_or xs i d).ordinal ≡ o) → list_any (λ a. a.ordinal == o) xs ≡ true
any-at o [] i within here = absurd (omega arith)
any-at o (x ∷ xs) zero within here = rw (eq-eqb x.ordinal o (here x)) refl
any-at o (x ∷ xs) (suc i) within here = first (x.ordinal == o) (any-at o xs i (omega arith) here)
  where
    first : (b : Bool) → list_any (λ a. a.ordinal == o) xs ≡ true → (b || list_any (λ a. a.ordinal == o) xs) ≡ true
    first true e = refl
    first false e = e

any-none : (o : ℕ) (xs : List Allocation) → ((k : ℕ) (d : Allocation) → k < length xs → (get_or xs k d).ordinal ≢ o) → list_any (λ a. a.ordinal == o) xs ≡ false
any-none o [] others = refl
any-none o (x ∷ xs) others =
    rw (ne_eqb x.ordinal o (others 0 x (omega arith)))
    (any-none o xs (λ k d within. others (suc k) d (omega arith)))

-- ---- the search

pub record Finds (xs : List Allocation) (o : ℕ) (r : Result ℕ ℕ) : Type 0 where
  pub held : is_ok r ≡ list_any (λ a. a.ordinal == o) xs
  pub found : IfOk r (λ i. find (λ a. a.ordinal == o) xs ≡ slice_get xs i)
  pub within : IfOk r (λ i. i < length xs)
  pub absent : OnErr r (find (λ a. a.ordinal == o) xs ≡ None)
  pub lower : IfErr r (λ i. i ≡ count_by (λ a. nat_lt a.ordinal o) xs)
  pub room : IfErr r (λ i. i ≤ length xs)

module _ (xs : List Allocation) (h : Ascend xs) (o : ℕ) where
  comparisons_rise : IsNonDecreasingBy (λ a. ordering_index (nat_cmp a.ordinal o)) xs
  comparisons_rise i j d le within =
      elim (cases_lt i j) [
        | inl before ↦ let less = h i j d before within in rises _ _ o (omega arith)
        | inr reached ↦
            let same : i ≡ j = omega arith in
            let e = ap (λ k. ordering_index (nat_cmp (get_or xs k d).ordinal o)) same in
            omega arith
      ]

  -- as many ordinals are lower as stand in front of the place
  counted : (i : ℕ) → i ≤ length xs → ((k : ℕ) (d : Allocation) → k < i → (get_or xs k d).ordinal < o) → ((k : ℕ) (d : Allocation) → i ≤ k → k < length xs → o < (get_or xs k d).ordinal) → (d : Allocation) → i ≡ lower_count o xs
  counted i within below above d =
      let few = lower_count-le o xs in
      elim (cases_lt i (lower_count o xs)) [
        | inl less ↦
            let low = in_front o xs i d h less in
            let high = above i d (omega arith) (omega arith) in
            absurd (omega arith)
        | inr reached ↦ elim (cases_lt (lower_count o xs) i) [
          | inl more ↦
              let high = behind o xs (lower_count o xs) d h (omega arith) (omega arith) in
              let low = below (lower_count o xs) d more in
              absurd (omega arith)
          | inr met ↦ omega arith
        ]
      ]

  pub searched : (r : Result ℕ ℕ) → IsSearchInRange r (length xs) → IsBinarySearchResult (λ a. nat_cmp a.ordinal o) xs r → Finds xs o r
  searched (Ok i) within equal =
      let here : (d : Allocation) → (get_or xs i d).ordinal ≡ o = λ d. told _ o Equal (equal d) in
      let others : (k : ℕ) (d : Allocation) → k < i → (get_or xs k d).ordinal ≢ o = λ k d before same. let less = h k i d before within in let at = here d in omega arith in
      record {
        held = sym (any-at o xs i within here);
        found = find-at o xs i within others here;
        within = within;
        absent = tt;
        lower = tt;
        room = tt;
      }
  searched (Err i) within parted =
      let cut = parted comparisons_rise in
      let below : (k : ℕ) (d : Allocation) → k < i → (get_or xs k d).ordinal < o = λ k d before. told _ o Less (cut.0 k d (omega arith) before) in
      let above : (k : ℕ) (d : Allocation) → i ≤ k → k < length xs → o < (get_or xs k d).ordinal = λ k d from under. told _ o Greater (cut.1 k d from under) in
      let others : (k : ℕ) (d : Allocation) → k < length xs → (get_or xs k d).ordinal ≢ o = λ k d under same. elim (cases_lt k i) [
        | inl before ↦ let low = below k d before in omega arith
        | inr from ↦ let high = above k d from under in omega arith
      ] in
      record {
        held = sym (any-none o xs others);
        found = tt;
        within = tt;
        absent = find-none o xs others;
        lower = counted i within below above (record { ordinal = 0; attributes = record { handle = []; secondary = [] }; stamp = 0 }) ∙ sym (lower_count-is o xs);
        room = within;
      }
