-- What is read after a write.
use Rattle.std.proofs.Common.{arith, ◌≡◌, ◌≢◌, ℕ, false, cond, List, [], ◌∷◌, Some, None, refl, sym, ap, ◌∙◌, inl, inr}
use Rattle.std.proofs.lemmas.Bool.{cases_Bool}
use Rattle.std.specs.declared.cmp.Ordering.{Ordering}
use Rattle.std.specs.declared.cmp.Ordering.TheVariants.{Less, Equal, Greater}
use Rattle.std.specs.Ordering.{is_eq, ordering_reverse}
use Rattle.ipam_records.specs.declared.key.Key.{Key}
use Rattle.ipam_records.specs.declared.record.Record.{Record}
use Rattle.ipam_records.specs.KeyOrder.{key_cmp, keys_equal}
use Rattle.ipam_records.specs.KeyOrderLaws.{key_cmp_total, same-keys_equal, keys_equal-itself, keys_equal-other}
use Rattle.std.specs.List.Sorted.{IsStrictlySortedBy}
use Rattle.ipam_records.specs.Sound.{IsDatastore}
use Rattle.ipam_records.specs.Datastore.{row_key, row_of, row_at, with_row, without_row}

-- a key that the first stands after is another one
behind_other : (k l : Key) → key_cmp k l ≡ Greater → keys_equal l k ≡ false
behind_other k l e = ap is_eq (key_cmp_total.antisymm l k ∙ ap ordering_reverse e)

-- the row that was written is found by its key
pub row_of-with_row : (row : ℕ × Record) (rows : List (ℕ × Record)) → row_of (row_key row) (with_row row rows) ≡ Some row
row_of-with_row row [] = rw (keys_equal-itself (row_key row)) refl
row_of-with_row row (first ∷ rest) = from (row_of-with_row row rest) (key_cmp (row_key row) (row_key first)) refl
  where
    from : row_of (row_key row) (with_row row rest) ≡ Some row → (o : Ordering) → key_cmp (row_key row) (row_key first) ≡ o → row_of (row_key row) (row_at o row first rest (with_row row rest)) ≡ Some row
    from further Less e = rw (keys_equal-itself (row_key row)) refl
    from further Equal e = rw (keys_equal-itself (row_key row)) refl
    from further Greater e = rw (behind_other (row_key row) (row_key first) e) further

-- other rows are found as before
pub row_of-with_row-other : (key : Key) (row : ℕ × Record) (rows : List (ℕ × Record)) → row_key row ≢ key → row_of key (with_row row rows) ≡ row_of key rows
row_of-with_row-other key row [] other = rw (keys_equal-other (row_key row) key other) refl
row_of-with_row-other key row (first ∷ rest) other = from (row_of-with_row-other key row rest other) (key_cmp (row_key row) (row_key first)) refl
  where
    from : row_of key (with_row row rest) ≡ row_of key rest → (o : Ordering) → key_cmp (row_key row) (row_key first) ≡ o → row_of key (row_at o row first rest (with_row row rest)) ≡ row_of key (first ∷ rest)
    from further Less e = rw (keys_equal-other (row_key row) key other) refl
    from further Equal e =
        let same = same-keys_equal (row_key row) (row_key first) (ap is_eq e) in
        let first_other = keys_equal-other (row_key first) key (λ is. other (same ∙ is)) in
        rw (keys_equal-other (row_key row) key other, first_other) refl
    from further Greater e = ap (λ found. cond (keys_equal (row_key first) key) (Some first) found) further

-- the row that was removed is not found
pub row_of-without_row : (key : Key) (rows : List (ℕ × Record)) → row_of key (without_row key rows) ≡ None
row_of-without_row key [] = refl
row_of-without_row key (first ∷ rest) = elim (cases_Bool (keys_equal (row_key first) key)) [
  | inl same ↦ rw same (row_of-without_row key rest)
  | inr differ ↦ rw (differ, differ) (row_of-without_row key rest)
]

pub row_of-without_row-other : (key removed : Key) (rows : List (ℕ × Record)) → removed ≢ key → row_of key (without_row removed rows) ≡ row_of key rows
row_of-without_row-other key removed [] other = refl
row_of-without_row-other key removed (first ∷ rest) other = elim (cases_Bool (keys_equal (row_key first) removed)) [
  | inl same ↦
      let is = same-keys_equal (row_key first) removed same in
      let first_other = keys_equal-other (row_key first) key (λ e. other (sym is ∙ e)) in
      rw (same, first_other) (row_of-without_row-other key removed rest other)
  | inr differ ↦
      rw differ (ap (λ found. cond (keys_equal (row_key first) key) (Some first) found) (row_of-without_row-other key removed rest other))
]

-- what is found by a key has the key
pub row_key-row_of : (key : Key) (rows : List (ℕ × Record)) (row : ℕ × Record) → row_of key rows ≡ Some row → row_key row ≡ key
row_key-row_of key [] row e = cc
row_key-row_of key (first ∷ rest) row e = elim (cases_Bool (keys_equal (row_key first) key)) [
  | inl same ↦ let k = rw same at e in let is : first ≡ row = cc in ap row_key (sym is) ∙ same-keys_equal (row_key first) key same
  | inr differ ↦ let k = rw differ at e in row_key-row_of key rest row k
]

-- a datastore with no rows
pub IsDatastore-empty : IsDatastore (record { rows = []; counter = 0 })
unfolding IsStrictlySortedBy
IsDatastore-empty = record { rows = λ k d h. absurd (omega arith); ascending = tt; counted = omega arith }
