-- What a put and a removal leave at each key, and that ascending rows are told by what is at each key.
use Rattle.std.proofs.Common.{◌≡◌, ℕ, List, [], ◌∷◌, Bool, true, false, cond, not, map, Option, Some, None, refl, sym, ◌∙◌, ap, subst}
use Rattle.std.specs.declared.cmp.Ordering.{Ordering}
use Rattle.std.specs.declared.cmp.Ordering.TheVariants.{Less, Equal, Greater}
use Rattle.std.specs.Ordering.{is_eq, ordering_reverse}
use Rattle.std.specs.Cmp.{tied_itself}
use Rattle.std.specs.List.{AllByRecursion}
use Rattle.std.proofs.lemmas.Map.Lookups.{exact_bytes}
use Rattle.ipam_records.specs.declared.call.Row.{Row}
use Rattle.ipam_records.specs.Datastore.{row_at}
use Rattle.ipam_keeper.specs.Rows.{text_cmp, texts_equal, Ascend, row_key_text, row_of, rows_with, rows_without}
use Rattle.ipam_keeper.proofs.Searching.{text_total}
use Rattle.ipam_keeper.proofs.Ascending.{each_from}

equal_from : (o : Ordering) → is_eq o ≡ true → o ≡ Equal
equal_from Less e = cc e
equal_from Equal e = refl
equal_from Greater e = cc e

-- two texts that equal a third equal each other
both_equal : (a b key : List ℕ) → texts_equal a key ≡ true → texts_equal b key ≡ true → text_cmp a b ≡ Equal
both_equal a b key e f =
    text_total.congr a key b (equal_from _ e) ∙ text_total.antisymm key b ∙ ap ordering_reverse (equal_from _ f)

replaced : {X : Type 0} (a b : Bool) (x y rest : X) → a ≡ b → cond a x rest ≡ cond a x (cond b y rest)
replaced true b x y rest e = refl
replaced false true x y rest e = cc e
replaced false false x y rest e = refl

exchanged : {X : Type 0} (a b : Bool) (x y rest here : X) → (a ≡ true → b ≡ true → ⊥) → here ≡ cond a x rest → cond b y here ≡ cond a x (cond b y rest)
exchanged true true x y rest here apart e = absurd (apart refl refl)
exchanged true false x y rest here apart e = e
exchanged false true x y rest here apart e = refl
exchanged false false x y rest here apart e = e

-- a put changes what is at its key alone
pub row_of-rows_with : (key : List ℕ) (new : Row) (rows : List Row) → row_of key (rows_with new rows) ≡ cond (texts_equal (row_key_text new) key) (Some new) (row_of key rows)
row_of-rows_with key new [] = refl
row_of-rows_with key new (r ∷ rs) =
    by_order (text_cmp (row_key_text new) (row_key_text r)) refl (row_of-rows_with key new rs)
  where
    by_order : (o : Ordering) → text_cmp (row_key_text new) (row_key_text r) ≡ o → row_of key (rows_with new rs) ≡ cond (texts_equal (row_key_text new) key) (Some new) (row_of key rs) → row_of key (row_at o new r rs (rows_with new rs)) ≡ cond (texts_equal (row_key_text new) key) (Some new) (row_of key (r ∷ rs))
    by_order Less h further = refl
    by_order Equal h further =
        replaced (texts_equal (row_key_text new) key) (texts_equal (row_key_text r) key) (Some new) (Some r) (row_of key rs) (ap is_eq (text_total.congr (row_key_text new) (row_key_text r) key h))
    by_order Greater h further =
        exchanged (texts_equal (row_key_text new) key) (texts_equal (row_key_text r) key) (Some new) (Some r) (row_of key rs) (row_of key (rows_with new rs))
        (λ e f. let same = sym h ∙ both_equal (row_key_text new) (row_key_text r) key e f in cc same) further

either_way : (b : Bool) (found : Option Row) → found ≡ cond b found found
either_way true found = refl
either_way false found = refl

-- a removal leaves nothing at its key, and all else
pub row_of-rows_without : (key gone : List ℕ) (rows : List Row) → row_of key (rows_without gone rows) ≡ cond (texts_equal gone key) None (row_of key rows)
row_of-rows_without key gone [] = either_way (texts_equal gone key) None
row_of-rows_without key gone (r ∷ rs) =
    by_test (texts_equal (row_key_text r) gone) refl (row_of-rows_without key gone rs)
  where
    by_test : (b : Bool) → texts_equal (row_key_text r) gone ≡ b → row_of key (rows_without gone rs) ≡ cond (texts_equal gone key) None (row_of key rs) → row_of key (cond (not b) (r ∷ rows_without gone rs) (rows_without gone rs)) ≡ cond (texts_equal gone key) None (row_of key (r ∷ rs))
    by_test true h further =
        further
        ∙ replaced (texts_equal gone key) (texts_equal (row_key_text r) key) None (Some r) (row_of key rs) (sym (ap is_eq (text_total.congr (row_key_text r) gone key (equal_from _ h))))
    by_test false h further =
        exchanged (texts_equal gone key) (texts_equal (row_key_text r) key) None (Some r) (row_of key rs) (row_of key (rows_without gone rs))
        (λ e f. let same = sym h ∙ ap is_eq (text_total.congr (row_key_text r) key gone (equal_from _ f) ∙ text_total.antisymm key gone ∙ ap ordering_reverse (equal_from _ e)) in cc same) further

none_above : (key : List ℕ) (rows : List Row) → AllByRecursion (λ y. text_cmp key y ≡ Less) (map row_key_text rows) → row_of key rows ≡ None
none_above key [] a = refl
none_above key (r ∷ rs) a =
    ap (λ o. cond (is_eq o) (Some r) (row_of key rs)) (text_total.antisymm (row_key_text r) key ∙ ap ordering_reverse a.0)
    ∙ none_above key rs a.1

first_found : (r : Row) (rs : List Row) (key : List ℕ) → text_cmp (row_key_text r) key ≡ Equal → row_of key (r ∷ rs) ≡ Some r
first_found r rs key h = ap (λ o. cond (is_eq o) (Some r) (row_of key rs)) h

-- the row of what stands before the first is none
none_before : (key : List ℕ) (r : Row) (rs : List Row) → Ascend (r ∷ rs) → text_cmp key (row_key_text r) ≡ Less → row_of key (r ∷ rs) ≡ None
none_before key r rs s h =
    none_above key (r ∷ rs) (h, each_from (λ y. text_cmp (row_key_text r) y ≡ Less) (λ y. text_cmp key y ≡ Less) (λ y below. text_total.trans key (row_key_text r) y h below) rs s.0)

-- ascending rows with the same at each key are the same
pub same_rows : (xs ys : List Row) → Ascend xs → Ascend ys → ((key : List ℕ) → row_of key xs ≡ row_of key ys) → xs ≡ ys
same_rows [] [] s t same = refl
same_rows [] (y ∷ ys) s t same =
    let bad = same (row_key_text y) ∙ first_found y ys (row_key_text y) (tied_itself text_total (row_key_text y)) in absurd (cc bad)
same_rows (x ∷ xs) [] s t same =
    let bad = sym (same (row_key_text x)) ∙ first_found x xs (row_key_text x) (tied_itself text_total (row_key_text x)) in absurd (cc bad)
same_rows (x ∷ xs) (y ∷ ys) s t same =
    by_order (text_cmp (row_key_text x) (row_key_text y)) refl (same_rows xs ys s.1 t.1)
  where
    found_first : row_of (row_key_text x) (x ∷ xs) ≡ Some x
    found_first = first_found x xs (row_key_text x) (tied_itself text_total (row_key_text x))

    tails : text_cmp (row_key_text x) (row_key_text y) ≡ Equal → (key : List ℕ) → row_of key xs ≡ row_of key ys
    tails h key = by_test (texts_equal (row_key_text x) key) refl
      where
        alike : text_cmp (row_key_text x) key ≡ text_cmp (row_key_text y) key
        alike = text_total.congr (row_key_text x) (row_key_text y) key h

        by_test : (b : Bool) → texts_equal (row_key_text x) key ≡ b → row_of key xs ≡ row_of key ys
        by_test true e =
            let at_x : row_key_text x ≡ key = exact_bytes (row_key_text x) key (equal_from _ e) in
            let at_y : row_key_text y ≡ key = exact_bytes (row_key_text y) key (sym alike ∙ equal_from _ e) in
            none_above key xs (subst (λ k. AllByRecursion (λ z. text_cmp k z ≡ Less) (map row_key_text xs)) at_x s.0)
            ∙ sym (none_above key ys (subst (λ k. AllByRecursion (λ z. text_cmp k z ≡ Less) (map row_key_text ys)) at_y t.0))
        by_test false e =
            sym (ap (λ b. cond b (Some x) (row_of key xs)) e)
            ∙ same key
            ∙ ap (λ b. cond b (Some y) (row_of key ys)) (sym (ap is_eq alike) ∙ e)

    by_order : (o : Ordering) → text_cmp (row_key_text x) (row_key_text y) ≡ o → (((key : List ℕ) → row_of key xs ≡ row_of key ys) → xs ≡ ys) → x ∷ xs ≡ y ∷ ys
    by_order Less h further =
        let bad = sym found_first ∙ same (row_key_text x) ∙ none_before (row_key_text x) y ys t h in absurd (cc bad)
    by_order Greater h further =
        let before = text_total.antisymm (row_key_text y) (row_key_text x) ∙ ap ordering_reverse h in
        let bad = sym (first_found y ys (row_key_text y) (tied_itself text_total (row_key_text y))) ∙ sym (same (row_key_text y)) ∙ none_before (row_key_text y) x xs s before in
        absurd (cc bad)
    by_order Equal h further =
        let met : Some x ≡ Some y = sym found_first ∙ same (row_key_text x) ∙ first_found y ys (row_key_text x) (text_total.antisymm (row_key_text y) (row_key_text x) ∙ ap ordering_reverse h) in
        let first : x ≡ y = cc met in
        let rest : xs ≡ ys = further (tails h) in
        λ i. first i ∷ rest i
