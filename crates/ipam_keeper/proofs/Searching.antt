-- What a search among rows finds, and what a write at that place does.
use Rattle.std.proofs.Common.{◌≡◌, ℕ, List, [], ◌∷◌, length, set, map, not, cond, Result, Ok, Err, IfOk, IfErr, ap, ◌∙◌, refl}
use Rattle.std.specs.declared.cmp.Ordering.{Ordering}
use Rattle.std.specs.Ordering.{is_eq, ordering_reverse}
use Rattle.std.specs.Cmp.{IsTotalOrder}
use Rattle.std.specs.List.{insert, remove}
use Rattle.std.specs.List.Sorted.{IsStrictlySortedBy, IsSearchInRange, IsBinarySearchResult}
use Rattle.std.proofs.lemmas.Cmp.{nat_list_cmp_total}
use Rattle.ipam_records.specs.declared.call.Row.{Row}
use Rattle.ipam_records.proofs.PlaceWrites.{PutsByKey, TakesByKey, puts_by_step, takes_by_step, set_found, insert_gap, remove_found, without_gap}
use Rattle.ipam_records.proofs.SearchLemmas.{searched as searched_by_key}
use Rattle.ipam_records.specs.Datastore.{row_at}
use Rattle.ipam_keeper.specs.Rows.{text_cmp, Ascend, row_key_text, rows_with, rows_without}
use Rattle.ipam_keeper.specs.Places.{IsPlace, IsGap}

-- the order of key texts is total
pub text_total : IsTotalOrder text_cmp
text_total = nat_list_cmp_total

-- ascending rows have sorted keys
sorted-keys : (rows : List Row) → Ascend rows → IsStrictlySortedBy text_cmp (map row_key_text rows)
unfolding IsStrictlySortedBy
sorted-keys [] s = tt
sorted-keys (r ∷ rs) s = (s.0, sorted-keys rs s.1)

-- a binary search ends at the row of the key, or at the gap for it
pub searched : (rows : List Row) → Ascend rows → (key : List ℕ) (r : Result ℕ ℕ) → IsSearchInRange r (length rows) → IsBinarySearchResult (λ row. text_cmp (row_key_text row) key) rows r → record { found : IfOk r (IsPlace rows key); absent : IfErr r (IsGap rows key) }
searched rows sorted key (Ok at) within equal = record { found = record { within = within; same = equal }; absent = tt }
searched rows sorted key (Err at) within parted =
    let gap = (searched_by_key text_cmp text_total row_key_text rows (sorted-keys rows sorted) key (Err at) within parted).absent in
    record { found = tt; absent = record { within = gap.within; before = gap.before; behind = gap.behind } }

-- ---- one step of each definition
pub without_step : (key : List ℕ) (r : Row) (rs : List Row) (o : Ordering) → text_cmp (row_key_text r) key ≡ o → rows_without key (r ∷ rs) ≡ cond (not (is_eq o)) (r ∷ rows_without key rs) (rows_without key rs)
without_step key r rs o h = ap (λ v. cond (not (is_eq v)) (r ∷ rows_without key rs) (rows_without key rs)) h

pub with_step : (new r : Row) (rs : List Row) (o : Ordering) → text_cmp (row_key_text r) (row_key_text new) ≡ o → rows_with new (r ∷ rs) ≡ row_at (ordering_reverse o) new r rs (rows_with new rs)
with_step new r rs o h =
    ap (λ v. row_at v new r rs (rows_with new rs)) (text_total.antisymm (row_key_text new) (row_key_text r) ∙ ap ordering_reverse h)

puts : PutsByKey text_cmp row_key_text rows_with
puts = puts_by_step text_cmp row_key_text rows_with (λ new. refl) with_step

takes : TakesByKey text_cmp row_key_text rows_without
takes = takes_by_step text_cmp row_key_text rows_without (λ key. refl) without_step

-- ---- by what a search found
pub set-rows_with : (rows : List Row) → Ascend rows → (new : Row) (i : ℕ) → IsPlace rows (row_key_text new) i → set rows i new ≡ rows_with new rows
set-rows_with rows s new i p = set_found text_cmp text_total row_key_text rows_with puts new rows i (sorted-keys rows s) p.within p.same

pub insert-rows_with : (rows : List Row) (new : Row) (i : ℕ) → IsGap rows (row_key_text new) i → insert rows i new ≡ rows_with new rows
insert-rows_with rows new i g = insert_gap text_cmp row_key_text rows_with puts new rows i g.within g.before g.behind

pub remove-rows_without : (rows : List Row) → Ascend rows → (key : List ℕ) (i : ℕ) → IsPlace rows key i → remove rows i ≡ rows_without key rows
remove-rows_without rows s key i p = remove_found text_cmp text_total row_key_text rows_without takes key rows i (sorted-keys rows s) p.within p.same

pub same-rows_without : (rows : List Row) (key : List ℕ) (i : ℕ) → IsGap rows key i → rows_without key rows ≡ rows
same-rows_without rows key i g = without_gap text_cmp row_key_text rows_without takes key rows i g.before g.behind
