-- What is found in a list whose keys ascend.
use Rattle.std.proofs.Common.{◌≡◌, ℕ, zero, suc, ◌<◌, ◌≤◌, inl, inr, List, [], ◌∷◌, length, get_or, map, Bool, true, false, cond, Some, None, Result, Ok, Err, IfOk, IfErr, ap, sym, ◌∙◌, arith, refl, subst}
use Rattle.std.proofs.lemmas.Bool.{cases_lt}
use Rattle.std.proofs.lemmas.Map.Keys.{sorted_head, sorted_tail}
use Rattle.std.specs.declared.cmp.Ordering.{Ordering}
use Rattle.std.specs.declared.cmp.Ordering.TheVariants.{Less, Equal, Greater}
use Rattle.std.specs.Ordering.{ordering_index, ordering_reverse}
use Rattle.std.specs.Cmp.{IsTotalOrder, alike_right}
use Rattle.std.specs.List.{AllByRecursion, find}
use Rattle.std.specs.List.Sorted.{IsStrictlySortedBy, IsSearchInRange, IsBinarySearchResult, IsNonDecreasingBy}
use Rattle.ipam_records.specs.Places.{IsFoundAt, IsGapAt}

index_le_two : (r : Ordering) → ordering_index r ≤ 2
index_le_two Less = omega arith
index_le_two Equal = omega arith
index_le_two Greater = omega arith

-- ---- lists whose keys ascend
module _ {X K : Type 0} (cmp : K → K → Ordering) (total : IsTotalOrder cmp) (key : X → K) where
  -- what holds of each key holds of the key at a place
  pub key_at : (P : K → Type 0) (xs : List X) (i : ℕ) (d : X) → AllByRecursion P (map key xs) → i < length xs → P (key (get_or xs i d))
  key_at P [] i d all h = absurd (omega arith)
  key_at P (x ∷ xs) zero d all h = all.0
  key_at P (x ∷ xs) (suc i) d all h = key_at P xs i d all.1 (omega arith)

  pub below_at : (xs : List X) (i j : ℕ) (d : X) → IsStrictlySortedBy cmp (map key xs) → i < j → j < length xs → cmp (key (get_or xs i d)) (key (get_or xs j d)) ≡ Less
  below_at [] i j d s before h = absurd (omega arith)
  below_at (x ∷ xs) i zero d s before h = absurd (omega arith)
  below_at (x ∷ xs) zero (suc j) d s before h =
      key_at (λ y. cmp (key x) y ≡ Less) xs j d (sorted_head cmp _ _ s) (omega arith)
  below_at (x ∷ xs) (suc i) (suc j) d s before h = below_at xs i j d (sorted_tail cmp _ _ s) (omega arith) (omega arith)

  -- what is below another key does not compare above it
  rises : (x y k : K) → cmp x y ≡ Less → ordering_index (cmp x k) ≤ ordering_index (cmp y k)
  rises x y k less = by_answer (cmp y k) refl
    where
      by_answer : (s : Ordering) → cmp y k ≡ s → ordering_index (cmp x k) ≤ ordering_index s
      by_answer Less h =
          let e = ap ordering_index (total.trans x y k less h) in omega arith
      by_answer Equal h =
          let e = ap ordering_index (sym (alike_right total y k x h) ∙ less) in omega arith
      by_answer Greater h = index_le_two (cmp x k)

  comparisons_rise : (xs : List X) → IsStrictlySortedBy cmp (map key xs) → (k : K) → IsNonDecreasingBy (λ x. ordering_index (cmp (key x) k)) xs
  comparisons_rise xs s k i j d le within =
      elim (cases_lt i j) [
        | inl before ↦ rises _ _ k (below_at xs i j d s before within)
        | inr reached ↦
            let same : i ≡ j = omega arith in
            let P : ℕ → Type 0 = λ n. ordering_index (cmp (key (get_or xs i d)) k) ≤ ordering_index (cmp (key (get_or xs n d)) k) in
            subst P same (omega arith)
      ]

  -- a binary search ends at what has the key, or at the gap for it
  pub searched : (xs : List X) → IsStrictlySortedBy cmp (map key xs) → (k : K) (r : Result ℕ ℕ) → IsSearchInRange r (length xs) → IsBinarySearchResult (λ x. cmp (key x) k) xs r → record { found : IfOk r (IsFoundAt (λ x. cmp (key x) k) xs); absent : IfErr r (IsGapAt (λ x. cmp (key x) k) xs) }
  searched xs s k (Ok at) within equal = record {
    found = record { within = within; same = equal };
    absent = tt;
  }
  searched xs s k (Err at) within parted = record {
    found = tt;
    absent = record {
      within = within;
      before = λ i d h. (parted (comparisons_rise xs s k)).0 i d (omega arith) h;
      behind = λ i d h m. (parted (comparisons_rise xs s k)).1 i d h m;
    };
  }

  -- what is before the place of a key is below it
  pub before_found : (xs : List X) → IsStrictlySortedBy cmp (map key xs) → (k : K) (i : ℕ) → IsFoundAt (λ x. cmp (key x) k) xs i → (j : ℕ) (d : X) → j < i → cmp (key (get_or xs j d)) k ≡ Less
  before_found xs s k i found j d h =
      sym (alike_right total _ k (key (get_or xs j d)) (found.same d)) ∙ below_at xs j i d s h found.within

  -- what is after the place of a key is above it
  pub behind_found : (xs : List X) → IsStrictlySortedBy cmp (map key xs) → (k : K) (i : ℕ) → IsFoundAt (λ x. cmp (key x) k) xs i → (j : ℕ) (d : X) → i < j → j < length xs → cmp (key (get_or xs j d)) k ≡ Greater
  behind_found xs s k i found j d h within =
      total.antisymm (key (get_or xs j d)) k
      ∙ ap ordering_reverse (sym (total.congr _ k (key (get_or xs j d)) (found.same d)) ∙ below_at xs i j d s h within)

-- ---- the first that passes a test
pub find_at : {X : Type 0} (passes : X → Bool) (xs : List X) (i : ℕ) (d : X) → i < length xs → ((j : ℕ) (d : X) → j < i → passes (get_or xs j d) ≡ false) → ((d : X) → passes (get_or xs i d) ≡ true) → find passes xs ≡ Some (get_or xs i d)
find_at passes [] i d h before here = absurd (omega arith)
find_at passes (x ∷ xs) zero d h before here = ap (λ b. cond b (Some x) (find passes xs)) (here x)
find_at passes (x ∷ xs) (suc i) d h before here =
    ap (λ b. cond b (Some x) (find passes xs)) (before 0 x (omega arith))
    ∙ find_at passes xs i d (omega arith) (λ j e l. before (suc j) e (omega arith)) here

pub find_none : {X : Type 0} (passes : X → Bool) (xs : List X) → ((j : ℕ) (d : X) → j < length xs → passes (get_or xs j d) ≡ false) → find passes xs ≡ None
find_none passes [] none = refl
find_none passes (x ∷ xs) none =
    ap (λ b. cond b (Some x) (find passes xs)) (none 0 x (omega arith))
    ∙ find_none passes xs (λ j e l. none (suc j) e (omega arith))
