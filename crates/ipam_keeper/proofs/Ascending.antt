-- A put and a removal leave the keys ascending.
use Rattle.std.proofs.Common.{◌≡◌, ℕ, List, [], ◌∷◌, Bool, true, false, map, cond, refl, ◌∙◌, ap}
use Rattle.std.specs.declared.cmp.Ordering.{Ordering}
use Rattle.std.specs.declared.cmp.Ordering.TheVariants.{Less, Equal, Greater}
use Rattle.std.specs.Ordering.{ordering_reverse}
use Rattle.std.specs.List.{AllByRecursion, filter}
use Rattle.ipam_records.specs.declared.call.Row.{Row}
use Rattle.ipam_records.specs.Datastore.{row_at}
use Rattle.ipam_keeper.specs.Rows.{text_cmp, Ascend, row_key_text, rows_with, rows_without}
use Rattle.ipam_keeper.proofs.Searching.{text_total}

pub each_from : (P Q : List ℕ → Type 0) → ((key : List ℕ) → P key → Q key) → (rows : List Row) → AllByRecursion P (map row_key_text rows) → AllByRecursion Q (map row_key_text rows)
each_from P Q from [] a = tt
each_from P Q from (r ∷ rs) a = (from (row_key_text r) a.0, each_from P Q from rs a.1)

-- what is so of each key and of a row's is so of each key with the row
each_with : (P : List ℕ → Type 0) (new : Row) (rows : List Row) → P (row_key_text new) → AllByRecursion P (map row_key_text rows) → AllByRecursion P (map row_key_text (rows_with new rows))
each_with P new [] h a = (h, tt)
each_with P new (r ∷ rs) h a =
    by_order (text_cmp (row_key_text new) (row_key_text r)) (each_with P new rs h a.1)
  where
    by_order : (o : Ordering) → AllByRecursion P (map row_key_text (rows_with new rs)) → AllByRecursion P (map row_key_text (row_at o new r rs (rows_with new rs)))
    by_order Less further = (h, a)
    by_order Equal further = (h, a.1)
    by_order Greater further = (a.0, further)

pub Ascend-rows_with : (new : Row) (rows : List Row) → Ascend rows → Ascend (rows_with new rows)
Ascend-rows_with new [] s = (tt, tt)
Ascend-rows_with new (r ∷ rs) s =
    by_order (text_cmp (row_key_text new) (row_key_text r)) refl (Ascend-rows_with new rs s.1)
  where
    by_order : (o : Ordering) → text_cmp (row_key_text new) (row_key_text r) ≡ o → Ascend (rows_with new rs) → Ascend (row_at o new r rs (rows_with new rs))
    by_order Less h further =
        ((h, each_from (λ y. text_cmp (row_key_text r) y ≡ Less) (λ y. text_cmp (row_key_text new) y ≡ Less) (λ y below. text_total.trans (row_key_text new) (row_key_text r) y h below) rs s.0), s)
    by_order Equal h further =
        (each_from (λ y. text_cmp (row_key_text r) y ≡ Less) (λ y. text_cmp (row_key_text new) y ≡ Less) (λ y below. text_total.congr (row_key_text new) (row_key_text r) y h ∙ below) rs s.0, s.1)
    by_order Greater h further =
        (each_with (λ y. text_cmp (row_key_text r) y ≡ Less) new rs (text_total.antisymm (row_key_text r) (row_key_text new) ∙ ap ordering_reverse h) s.0, further)

-- what is so of each key is so of those that pass
each_passing : (P : List ℕ → Type 0) (p : Row → Bool) (rows : List Row) → AllByRecursion P (map row_key_text rows) → AllByRecursion P (map row_key_text (filter p rows))
each_passing P p [] a = tt
each_passing P p (r ∷ rs) a = by_test (p r) (each_passing P p rs a.1)
  where
    by_test : (b : Bool) → AllByRecursion P (map row_key_text (filter p rs)) → AllByRecursion P (map row_key_text (cond b (r ∷ filter p rs) (filter p rs)))
    by_test true rest = (a.0, rest)
    by_test false rest = rest

ascend_passing : (p : Row → Bool) (rows : List Row) → Ascend rows → Ascend (filter p rows)
ascend_passing p [] s = tt
ascend_passing p (r ∷ rs) s = by_test (p r) (ascend_passing p rs s.1)
  where
    by_test : (b : Bool) → Ascend (filter p rs) → Ascend (cond b (r ∷ filter p rs) (filter p rs))
    by_test true rest = (each_passing (λ y. text_cmp (row_key_text r) y ≡ Less) p rs s.0, rest)
    by_test false rest = rest

pub Ascend-rows_without : (key : List ℕ) (rows : List Row) → Ascend rows → Ascend (rows_without key rows)
Ascend-rows_without key rows s = ascend_passing _ rows s
