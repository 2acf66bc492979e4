-- Which rows are found by their keys among a datastore's ascending rows, and how many there are when one is put in or taken out.
use Rattle.std.proofs.Common.{◌≡◌, ℕ, ◌+◌, ◌≤◌, List, [], ◌∷◌, map, length, Some, None, not, Bool, true, false, cond, refl, sym, ap, ◌∙◌, subst, inl, inr, arith}
use Rattle.std.specs.Prelude.{Contains}
use Rattle.std.specs.declared.cmp.Ordering.{Ordering}
use Rattle.std.specs.declared.cmp.Ordering.TheVariants.{Less, Equal, Greater}
use Rattle.std.specs.Ordering.{is_eq}
use Rattle.std.specs.List.{AllByRecursion, filter}
use Rattle.std.specs.List.Sorted.{IsStrictlySortedBy}
use Rattle.std.proofs.lemmas.Bool.{cases_Bool}
use Rattle.ipam_records.specs.declared.key.Key.{Key}
use Rattle.ipam_records.specs.declared.record.Record.{Record}
use Rattle.ipam_records.specs.Datastore.{row_key, row_of, row_at, with_row, without_row}
use Rattle.ipam_records.specs.KeyOrder.{key_cmp, keys_equal}
use Rattle.ipam_records.specs.KeyOrderLaws.{same-keys_equal, keys_equal-itself, keys_equal-other}
use Rattle.ipam_records.proofs.RowWrites.{later}
use Rattle.ipam_laws.proofs.Members.{in-cons, in-here, in-there, in-nothing}

-- ---- rows found

-- a key below all others is none of them
pub below-absent : (k : Key) (rows : List (ℕ × Record)) → AllByRecursion (λ z. key_cmp k z ≡ Less) (map row_key rows) → row_of k rows ≡ None
below-absent k [] all = refl
below-absent k (r ∷ rs) all =
    let other : keys_equal (row_key r) k ≡ false = keys_equal-other (row_key r) k (λ e.
    let itself = keys_equal-itself k in
    let less : key_cmp k k ≡ Less = ap (key_cmp k) (sym e) ∙ all.0 in
    let not_equal : keys_equal k k ≡ false = ap is_eq less in
    cc (itself, not_equal)) in
    rw other (below-absent k rs all.1)

-- a member of rows by ascending keys is found by its key
pub member-found : (rows : List (ℕ × Record)) (row : ℕ × Record) → IsStrictlySortedBy key_cmp (map row_key rows) → Contains rows row → row_of (row_key row) rows ≡ Some row
unfolding IsStrictlySortedBy
member-found [] row s h = absurd (in-nothing row h)
member-found (r ∷ rs) row s h = elim (in-cons row r rs h) [
  | inl is ↦ subst (λ (x : ℕ × Record). row_of (row_key x) (r ∷ rs) ≡ Some x) is (rw (keys_equal-itself (row_key r)) refl)
  | inr there ↦ elim (cases_Bool (keys_equal (row_key r) (row_key row))) [
    | inl same ↦
        let e = same-keys_equal (row_key r) (row_key row) same in
        let found = member-found rs row s.1 there in
        let none = subst (λ (k : Key). row_of k rs ≡ None) e (below-absent (row_key r) rs s.0) in
        absurd (cc (found, none))
    | inr differ ↦ rw differ (member-found rs row s.1 there)
  ]
]

-- what is found is a member
pub found-member : (k : Key) (rows : List (ℕ × Record)) (row : ℕ × Record) → row_of k rows ≡ Some row → Contains rows row
found-member k [] row e = absurd (cc e)
found-member k (r ∷ rs) row e = elim (cases_Bool (keys_equal (row_key r) k)) [
  | inl same ↦ let f = rw same at e in let is : r ≡ row = cc f in subst (λ (x : ℕ × Record). Contains (r ∷ rs) x) is (in-here r rs)
  | inr differ ↦ let f = rw differ at e in in-there row r rs (found-member k rs row f)
]

-- ---- how many rows there are

-- how many rows have such a key
pub row_count : (Key → Bool) → List (ℕ × Record) → ℕ
row_count p [] = 0
row_count p (r ∷ rs) = cond (p (row_key r)) 1 0 + row_count p rs

pub length-row_count : (rows : List (ℕ × Record)) → length rows ≡ row_count (λ k. true) rows
unfolding row_count
length-row_count [] = refl
length-row_count (r ∷ rs) = let rest = length-row_count rs in omega arith

pub filter-row_count : (p : Key → Bool) (rows : List (ℕ × Record)) → length (filter (λ row. p (row_key row)) rows) ≡ row_count p rows
unfolding row_count
filter-row_count p [] = refl
filter-row_count p (r ∷ rs) = by (p (row_key r)) (filter-row_count p rs)
  where
    by : (b : Bool) → length (filter (λ row. p (row_key row)) rs) ≡ row_count p rs → length (cond b (r ∷ filter (λ row. p (row_key row)) rs) (filter (λ row. p (row_key row)) rs)) ≡ cond b 1 0 + row_count p rs
    by true rest = omega arith
    by false rest = omega arith

-- a row of a new key is one more
pub count-new : (p : Key → Bool) (new : ℕ × Record) (rows : List (ℕ × Record)) → row_of (row_key new) rows ≡ None → row_count p (with_row new rows) ≡ row_count p rows + cond (p (row_key new)) 1 0
unfolding row_count
count-new p new [] e = omega arith
count-new p new (r ∷ rs) e = by (key_cmp (row_key new) (row_key r)) refl (count-new p new rs)
  where
    other : keys_equal (row_key r) (row_key new) ≡ false → row_of (row_key new) rs ≡ None
    other differ = rw differ at e

    not_same : keys_equal (row_key r) (row_key new) ≡ true → ⊥
    not_same same = let f : Some r ≡ None = rw same at e in cc f

    by : (o : Ordering) → key_cmp (row_key new) (row_key r) ≡ o → (row_of (row_key new) rs ≡ None → row_count p (with_row new rs) ≡ row_count p rs + cond (p (row_key new)) 1 0)
        → row_count p (row_at o new r rs (with_row new rs)) ≡ cond (p (row_key r)) 1 0 + row_count p rs + cond (p (row_key new)) 1 0
    by Less o rest = omega arith
    by Equal o rest =
        let is = same-keys_equal (row_key new) (row_key r) (ap is_eq o) in
        absurd (not_same (subst (λ (k : Key). keys_equal k (row_key new) ≡ true) is (keys_equal-itself (row_key new))))
    by Greater o rest = elim (cases_Bool (keys_equal (row_key r) (row_key new))) [
      | inl same ↦ absurd (not_same same)
      | inr differ ↦ let more = rest (other differ) in omega arith
    ]

-- a row of a key that is there is none more
pub count-there : (p : Key → Bool) (new : ℕ × Record) (rows : List (ℕ × Record)) (old : ℕ × Record) → IsStrictlySortedBy key_cmp (map row_key rows) → row_of (row_key new) rows ≡ Some old → row_count p (with_row new rows) ≡ row_count p rows
unfolding row_count IsStrictlySortedBy
count-there p new [] old s e = absurd (cc e)
count-there p new (r ∷ rs) old s e = by (key_cmp (row_key new) (row_key r)) refl (count-there p new rs old s.1)
  where
    by : (o : Ordering) → key_cmp (row_key new) (row_key r) ≡ o → (row_of (row_key new) rs ≡ Some old → row_count p (with_row new rs) ≡ row_count p rs)
        → row_count p (row_at o new r rs (with_row new rs)) ≡ cond (p (row_key r)) 1 0 + row_count p rs
    by Less o rest =
        let none = below-absent (row_key new) (r ∷ rs) (o, later (row_key new) (row_key r) o rs s.0) in
        absurd (cc (none, e))
    by Equal o rest =
        let is = same-keys_equal (row_key new) (row_key r) (ap is_eq o) in
        let same : cond {A = ℕ} (p (row_key new)) 1 0 ≡ cond (p (row_key r)) 1 0 = ap (λ (k : Key). cond {A = ℕ} (p k) 1 0) is in
        omega arith
    by Greater o rest =
        let differ : keys_equal (row_key r) (row_key new) ≡ false = keys_equal-other (row_key r) (row_key new) (λ same.
        let itself = keys_equal-itself (row_key new) in
        let greater : key_cmp (row_key new) (row_key new) ≡ Greater = ap (key_cmp (row_key new)) (sym same) ∙ o in
        let not_equal : keys_equal (row_key new) (row_key new) ≡ false = ap is_eq greater in
        cc (itself, not_equal)) in
        let f : row_of (row_key new) rs ≡ Some old = rw differ at e in
        let more = rest f in
        omega arith

-- without a row there are no more
pub count-without : (p : Key → Bool) (key : Key) (rows : List (ℕ × Record)) → row_count p (without_row key rows) ≤ row_count p rows
unfolding row_count
count-without p key [] = omega arith
count-without p key (r ∷ rs) = by (not (keys_equal (row_key r) key)) (count-without p key rs)
  where
    by : (b : Bool) → row_count p (without_row key rs) ≤ row_count p rs → row_count p (cond b (r ∷ without_row key rs) (without_row key rs)) ≤ cond (p (row_key r)) 1 0 + row_count p rs
    by true rest = omega arith
    by false rest = omega arith
