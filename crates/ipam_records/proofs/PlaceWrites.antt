-- What a write at the place that a search found does to a list whose keys ascend.
use Rattle.std.proofs.Common.{◌≡◌, ℕ, zero, suc, ◌<◌, ◌≤◌, List, [], ◌∷◌, length, get_or, set, map, not, cond, ap, sym, ◌∙◌, arith}
use Rattle.std.specs.declared.cmp.Ordering.{Ordering}
use Rattle.std.specs.declared.cmp.Ordering.TheVariants.{Less, Equal, Greater}
use Rattle.std.specs.Ordering.{is_eq, ordering_reverse}
use Rattle.std.specs.Cmp.{IsTotalOrder}
use Rattle.std.specs.List.{insert, remove}
use Rattle.std.specs.List.Sorted.{IsStrictlySortedBy}
use Rattle.std.proofs.lemmas.Map.Keys.{sorted_tail}
use Rattle.ipam_records.specs.Datastore.{row_at}
use Rattle.ipam_records.proofs.SearchLemmas.{before_found, behind_found}

-- how an item is put into the place of its key, by the first item of the list
pub record PutsByKey {X K : Type 0} (cmp : K → K → Ordering) (key : X → K) (put : X → List X → List X) : Type 0 where
  pub empty : (new : X) → put new [] ≡ new ∷ []
  pub below : (new x : X) (xs : List X) → cmp (key x) (key new) ≡ Less → put new (x ∷ xs) ≡ x ∷ put new xs
  pub same : (new x : X) (xs : List X) → cmp (key x) (key new) ≡ Equal → put new (x ∷ xs) ≡ new ∷ xs
  pub above : (new x : X) (xs : List X) → cmp (key x) (key new) ≡ Greater → put new (x ∷ xs) ≡ new ∷ x ∷ xs

-- how the item of a key is taken out
pub record TakesByKey {X K : Type 0} (cmp : K → K → Ordering) (key : X → K) (without : K → List X → List X) : Type 0 where
  pub empty : (k : K) → without k [] ≡ []
  pub below : (k : K) (x : X) (xs : List X) → cmp (key x) k ≡ Less → without k (x ∷ xs) ≡ x ∷ without k xs
  pub same : (k : K) (x : X) (xs : List X) → cmp (key x) k ≡ Equal → without k (x ∷ xs) ≡ without k xs
  pub above : (k : K) (x : X) (xs : List X) → cmp (key x) k ≡ Greater → without k (x ∷ xs) ≡ x ∷ without k xs

-- both by one step of the definitions
pub puts_by_step : {X K : Type 0} (cmp : K → K → Ordering) (key : X → K) (put : X → List X → List X) → ((new : X) → put new [] ≡ new ∷ []) → ((new x : X) (xs : List X) (o : Ordering) → cmp (key x) (key new) ≡ o → put new (x ∷ xs) ≡ row_at (ordering_reverse o) new x xs (put new xs)) → PutsByKey cmp key put
puts_by_step cmp key put none step = record {
  empty = none;
  below = λ new x xs h. step new x xs Less h;
  same = λ new x xs h. step new x xs Equal h;
  above = λ new x xs h. step new x xs Greater h;
}

pub takes_by_step : {X K : Type 0} (cmp : K → K → Ordering) (key : X → K) (without : K → List X → List X) → ((k : K) → without k [] ≡ []) → ((k : K) (x : X) (xs : List X) (o : Ordering) → cmp (key x) k ≡ o → without k (x ∷ xs) ≡ cond (not (is_eq o)) (x ∷ without k xs) (without k xs)) → TakesByKey cmp key without
takes_by_step cmp key without none step = record {
  empty = none;
  below = λ k x xs h. step k x xs Less h;
  same = λ k x xs h. step k x xs Equal h;
  above = λ k x xs h. step k x xs Greater h;
}

-- ---- at a gap
module _ {X K : Type 0} (cmp : K → K → Ordering) (key : X → K) where
  pub insert_gap : (put : X → List X → List X) → PutsByKey cmp key put → (new : X) (xs : List X) (i : ℕ) → i ≤ length xs → ((j : ℕ) (d : X) → j < i → cmp (key (get_or xs j d)) (key new) ≡ Less) → ((j : ℕ) (d : X) → i ≤ j → j < length xs → cmp (key (get_or xs j d)) (key new) ≡ Greater) → insert xs i new ≡ put new xs
  insert_gap put puts new [] zero within before behind = sym (puts.empty new)
  insert_gap put puts new [] (suc i) within before behind = absurd (omega arith)
  insert_gap put puts new (x ∷ xs) zero within before behind =
      sym (puts.above new x xs (behind 0 x (omega arith) (omega arith)))
  insert_gap put puts new (x ∷ xs) (suc i) within before behind =
      let rest = insert_gap put puts new xs i (omega arith) (λ j d h. before (suc j) d (omega arith)) (λ j d h m. behind (suc j) d (omega arith) (omega arith)) in
      ap (λ l. x ∷ l) rest ∙ sym (puts.below new x xs (before 0 x (omega arith)))

  -- where no item has the key, none goes
  pub without_gap : (without : K → List X → List X) → TakesByKey cmp key without → (k : K) (xs : List X) (i : ℕ) → ((j : ℕ) (d : X) → j < i → cmp (key (get_or xs j d)) k ≡ Less) → ((j : ℕ) (d : X) → i ≤ j → j < length xs → cmp (key (get_or xs j d)) k ≡ Greater) → without k xs ≡ xs
  without_gap without takes k [] i before behind = takes.empty k
  without_gap without takes k (x ∷ xs) zero before behind =
      takes.above k x xs (behind 0 x (omega arith) (omega arith))
      ∙ ap (λ l. x ∷ l) (without_gap without takes k xs zero (λ j d h. absurd (omega arith)) (λ j d h m. behind (suc j) d (omega arith) (omega arith)))
  without_gap without takes k (x ∷ xs) (suc i) before behind =
      takes.below k x xs (before 0 x (omega arith))
      ∙ ap (λ l. x ∷ l) (without_gap without takes k xs i (λ j d h. before (suc j) d (omega arith)) (λ j d h m. behind (suc j) d (omega arith) (omega arith)))

-- ---- at the place of a key
module _ {X K : Type 0} (cmp : K → K → Ordering) (total : IsTotalOrder cmp) (key : X → K) where
  -- the first item stands before a key that a later item has
  before_later : (k : K) (x : X) (xs : List X) (i : ℕ) → IsStrictlySortedBy cmp (map key (x ∷ xs)) → i < length xs → ((d : X) → cmp (key (get_or xs i d)) k ≡ Equal) → cmp (key x) k ≡ Less
  before_later k x xs i s within same = before_found cmp total key (x ∷ xs) s k (suc i) (record { within = omega arith; same = same }) zero x (omega arith)

  pub set_found : (put : X → List X → List X) → PutsByKey cmp key put → (new : X) (xs : List X) (i : ℕ) → IsStrictlySortedBy cmp (map key xs) → i < length xs → ((d : X) → cmp (key (get_or xs i d)) (key new) ≡ Equal) → set xs i new ≡ put new xs
  set_found put puts new [] i s within same = absurd (omega arith)
  set_found put puts new (x ∷ xs) zero s within same = sym (puts.same new x xs (same x))
  set_found put puts new (x ∷ xs) (suc i) s within same =
      ap (λ l. x ∷ l) (set_found put puts new xs i (sorted_tail cmp _ _ s) (omega arith) same)
      ∙ sym (puts.below new x xs (before_later (key new) x xs i s (omega arith) same))

  pub remove_found : (without : K → List X → List X) → TakesByKey cmp key without → (k : K) (xs : List X) (i : ℕ) → IsStrictlySortedBy cmp (map key xs) → i < length xs → ((d : X) → cmp (key (get_or xs i d)) k ≡ Equal) → remove xs i ≡ without k xs
  remove_found without takes k [] i s within same = absurd (omega arith)
  remove_found without takes k (x ∷ xs) zero s within same =
      sym (takes.same k x xs (same x) ∙ without_gap cmp key without takes k xs zero (λ j d h. absurd (omega arith)) (λ j d h m. behind_found cmp total key (x ∷ xs) s k zero (record { within = within; same = same }) (suc j) d (omega arith) (omega arith)))
  remove_found without takes k (x ∷ xs) (suc i) s within same =
      ap (λ l. x ∷ l) (remove_found without takes k xs i (sorted_tail cmp _ _ s) (omega arith) same)
      ∙ sym (takes.below k x xs (before_later k x xs i s (omega arith) same))
