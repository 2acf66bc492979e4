-- What a search among rows finds, and what a write at that place does.
use Rattle.std.proofs.Common.{◌≡◌, ℕ, List, ◌∷◌, length, get_or, set, not, cond, Some, None, Result, Ok, Err, IfOk, IfErr, ap, ◌∙◌, refl}
use Rattle.std.specs.declared.cmp.Ordering.{Ordering}
use Rattle.std.specs.Ordering.{is_eq, ordering_reverse}
use Rattle.std.specs.List.{insert, remove}
use Rattle.std.specs.List.Sorted.{IsSearchInRange, IsBinarySearchResult}
use Rattle.ipam_records.specs.declared.key.Key.{Key}
use Rattle.ipam_records.specs.declared.record.Record.{Record}
use Rattle.ipam_records.specs.KeyOrder.{key_cmp}
use Rattle.ipam_records.specs.Datastore.{row_key, row_of, row_at, with_row, without_row}
use Rattle.ipam_records.specs.KeyOrderLaws.{key_cmp_total}
use Rattle.ipam_records.proofs.PlaceWrites.{PutsByKey, TakesByKey, puts_by_step, takes_by_step, set_found, insert_gap, remove_found, without_gap}
use Rattle.ipam_records.proofs.RowSearch.{row_of-found, row_of-absent}
use Rattle.ipam_records.proofs.SearchLemmas.{searched as searched_by_key}
use Rattle.ipam_store.specs.Places.{Ascend, IsPlace, IsGap}

-- a binary search ends at the row of the key, or at the gap for it
pub searched : (rows : List (ℕ × Record)) → Ascend rows → (key : Key) (r : Result ℕ ℕ) → IsSearchInRange r (length rows) → IsBinarySearchResult (λ row. key_cmp (row_key row) key) rows r → record { found : IfOk r (IsPlace rows key); absent : IfErr r (IsGap rows key) }
searched rows sorted key (Ok at) within equal = record { found = record { within = within; same = equal }; absent = tt }
searched rows sorted key (Err at) within parted =
    let gap = (searched_by_key key_cmp key_cmp_total row_key rows sorted.keys key (Err at) within parted).absent in
    record { found = tt; absent = record { within = gap.within; before = gap.before; behind = gap.behind } }

-- ---- one step of each definition
pub found_step : (key : Key) (r : ℕ × Record) (rs : List (ℕ × Record)) (o : Ordering) → key_cmp (row_key r) key ≡ o → row_of key (r ∷ rs) ≡ cond (is_eq o) (Some r) (row_of key rs)
found_step key r rs o h = ap (λ v. cond (is_eq v) (Some r) (row_of key rs)) h

pub without_step : (key : Key) (r : ℕ × Record) (rs : List (ℕ × Record)) (o : Ordering) → key_cmp (row_key r) key ≡ o → without_row key (r ∷ rs) ≡ cond (not (is_eq o)) (r ∷ without_row key rs) (without_row key rs)
without_step key r rs o h = ap (λ v. cond (not (is_eq v)) (r ∷ without_row key rs) (without_row key rs)) h

pub with_step : (new r : ℕ × Record) (rs : List (ℕ × Record)) (o : Ordering) → key_cmp (row_key r) (row_key new) ≡ o → with_row new (r ∷ rs) ≡ row_at (ordering_reverse o) new r rs (with_row new rs)
with_step new r rs o h =
    ap (λ v. row_at v new r rs (with_row new rs)) (key_cmp_total.antisymm (row_key new) (row_key r) ∙ ap ordering_reverse h)

puts : PutsByKey key_cmp row_key with_row
puts = puts_by_step key_cmp row_key with_row (λ new. refl) with_step

takes : TakesByKey key_cmp row_key without_row
takes = takes_by_step key_cmp row_key without_row (λ key. refl) without_step

-- ---- by what a search found
pub row_of-place : (rows : List (ℕ × Record)) → Ascend rows → (key : Key) (i : ℕ) (d : ℕ × Record) → IsPlace rows key i → row_of key rows ≡ Some (get_or rows i d)
row_of-place rows s key i d p = row_of-found rows s.keys key i d (record { within = p.within; same = p.same })

pub row_of-gap : (rows : List (ℕ × Record)) (key : Key) (i : ℕ) → IsGap rows key i → row_of key rows ≡ None
row_of-gap rows key i g = row_of-absent rows key i (record { within = g.within; before = g.before; behind = g.behind })

pub set-with_row : (rows : List (ℕ × Record)) → Ascend rows → (new : ℕ × Record) (i : ℕ) → IsPlace rows (row_key new) i → set rows i new ≡ with_row new rows
set-with_row rows s new i p = set_found key_cmp key_cmp_total row_key with_row puts new rows i s.keys p.within p.same

pub insert-with_row : (rows : List (ℕ × Record)) (new : ℕ × Record) (i : ℕ) → IsGap rows (row_key new) i → insert rows i new ≡ with_row new rows
insert-with_row rows new i g = insert_gap key_cmp row_key with_row puts new rows i g.within g.before g.behind

pub remove-without_row : (rows : List (ℕ × Record)) → Ascend rows → (key : Key) (i : ℕ) → IsPlace rows key i → remove rows i ≡ without_row key rows
remove-without_row rows s key i p = remove_found key_cmp key_cmp_total row_key without_row takes key rows i s.keys p.within p.same

pub same-without_row : (rows : List (ℕ × Record)) (key : Key) (i : ℕ) → IsGap rows key i → without_row key rows ≡ rows
same-without_row rows key i g = without_gap key_cmp row_key without_row takes key rows i g.before g.behind
