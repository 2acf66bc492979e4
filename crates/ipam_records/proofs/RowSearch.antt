-- Where the row of a key is among ascending rows.
use Rattle.std.proofs.Common.{◌≡◌, ℕ, zero, suc, ◌<◌, ◌≤◌, inl, inr, List, [], ◌∷◌, ◌++◌, length, get_or, take, drop, map, true, false, cond, Some, None, ap, sym, ◌∙◌, arith, refl, subst, append_assoc, slice_get}
use Rattle.std.proofs.lemmas.List.{append-nil}
use Rattle.std.proofs.lemmas.Bool.{cases_lt}
use Rattle.std.specs.declared.cmp.Ordering.{Ordering}
use Rattle.std.specs.declared.cmp.Ordering.TheVariants.{Less, Equal, Greater}
use Rattle.std.specs.Ordering.{is_eq, is_le, ordering_reverse}
use Rattle.std.specs.Cmp.{alike_right}
use Rattle.std.specs.Global.{Vec}
use Rattle.std.specs.List.{AllByRecursion}
use Rattle.std.specs.List.Sorted.{IsStrictlySortedBy}
use Rattle.ipam_records.specs.declared.key.Key.{Key}
use Rattle.ipam_records.specs.declared.record.Record.{Record}
use Rattle.ipam_records.specs.KeyOrder.{key_cmp, keys_equal}
use Rattle.ipam_records.specs.KeyOrderLaws.{key_cmp_total}
use Rattle.ipam_records.specs.Datastore.{row_key, row_of}
use Rattle.ipam_records.specs.Pages.{rows_of_pages}
use Rattle.ipam_records.specs.Places.{IsFoundAt, IsGapAt, begins_by}
use Rattle.ipam_records.proofs.SearchLemmas.{before_found, find_at, find_none}

abbrev Sorted : List (ℕ × Record) → Type 0
Sorted rows = IsStrictlySortedBy key_cmp (map row_key rows)

pub row_of-found : (rows : List (ℕ × Record)) → IsStrictlySortedBy key_cmp (map row_key rows) → (key : Key) (i : ℕ) (d : ℕ × Record) → IsFoundAt (λ row. key_cmp (row_key row) key) rows i → row_of key rows ≡ Some (get_or rows i d)
row_of-found rows s key i d found =
    find_at (λ row. keys_equal (row_key row) key) rows i d found.within
    (λ j e l. ap is_eq (before_found key_cmp key_cmp_total row_key rows s key i found j e l)) (λ e. ap is_eq (found.same e))

pub row_of-absent : (rows : List (ℕ × Record)) (key : Key) (i : ℕ) → IsGapAt (λ row. key_cmp (row_key row) key) rows i → row_of key rows ≡ None
row_of-absent rows key i gap = find_none (λ row. keys_equal (row_key row) key) rows differs
  where
    differs : (j : ℕ) (d : ℕ × Record) → j < length rows → keys_equal (row_key (get_or rows j d)) key ≡ false
    differs j d l = elim (cases_lt j i) [
      | inl before ↦ ap is_eq (gap.before j d before)
      | inr behind ↦ ap is_eq (gap.behind j d behind l)
    ]

-- ---- rows in two parts
pub key_between : (P : Key → Type 0) (xs : List (ℕ × Record)) (r : ℕ × Record) (ys : List (ℕ × Record)) → AllByRecursion P (map row_key (xs ++ r ∷ ys)) → P (row_key r)
key_between P [] r ys all = all.0
key_between P (x ∷ xs) r ys all = key_between P xs r ys all.1

keys-left : (P : Key → Type 0) (xs ys : List (ℕ × Record)) → AllByRecursion P (map row_key (xs ++ ys)) → AllByRecursion P (map row_key xs)
keys-left P [] ys all = tt
keys-left P (x ∷ xs) ys all = (all.0, keys-left P xs ys all.1)

pub sorted-left : (xs ys : List (ℕ × Record)) → IsStrictlySortedBy key_cmp (map row_key (xs ++ ys)) → IsStrictlySortedBy key_cmp (map row_key xs)
unfolding IsStrictlySortedBy
sorted-left [] ys s = tt
sorted-left (x ∷ xs) ys s = (keys-left (λ y. key_cmp (row_key x) y ≡ Less) xs ys s.0, sorted-left xs ys s.1)

pub sorted-right : (xs ys : List (ℕ × Record)) → IsStrictlySortedBy key_cmp (map row_key (xs ++ ys)) → IsStrictlySortedBy key_cmp (map row_key ys)
unfolding IsStrictlySortedBy
sorted-right [] ys s = s
sorted-right (x ∷ xs) ys s = sorted-right xs ys s.1

pub before_key : (x r key : Key) → key_cmp x r ≡ Less → (o : Ordering) → key_cmp r key ≡ o → is_le o ≡ true → key_cmp x key ≡ Less
before_key x r key less Less h t = key_cmp_total.trans x r key less h
before_key x r key less Equal h t = sym (alike_right key_cmp_total r key x h) ∙ less
before_key x r key less Greater h t = cc

pub greater : (o : Ordering) → is_le o ≡ false → o ≡ Greater
greater Less h = cc
greater Equal h = cc
greater Greater h = refl

pub behind_key : (r y key : Key) → key_cmp r key ≡ Greater → key_cmp r y ≡ Less → key_cmp y key ≡ Greater
behind_key r y key h less =
    let first : key_cmp key r ≡ Less = key_cmp_total.antisymm key r ∙ ap ordering_reverse h in
    key_cmp_total.antisymm y key ∙ ap ordering_reverse (key_cmp_total.trans key r y first less)

-- where the later part begins by the key, its row is not in the earlier one
row_of-later : (key : Key) (xs ys : List (ℕ × Record)) → IsStrictlySortedBy key_cmp (map row_key (xs ++ ys)) → begins_by key ys ≡ true → row_of key (xs ++ ys) ≡ row_of key ys
unfolding IsStrictlySortedBy
row_of-later key [] ys s t = refl
row_of-later key (x ∷ xs) [] s t = cc
row_of-later key (x ∷ xs) (r ∷ rs) s t =
    let less = key_between (λ y. key_cmp (row_key x) y ≡ Less) xs r rs s.0 in
    ap (λ o. cond (is_eq o) (Some x) (row_of key (xs ++ r ∷ rs))) (before_key (row_key x) (row_key r) key less (key_cmp (row_key r) key) refl t)
    ∙ row_of-later key xs (r ∷ rs) s.1 t

none_after : (key r : Key) (rows : List (ℕ × Record)) → key_cmp r key ≡ Greater → AllByRecursion (λ y. key_cmp r y ≡ Less) (map row_key rows) → row_of key rows ≡ None
none_after key r [] h all = refl
none_after key r (x ∷ xs) h all =
    ap (λ o. cond (is_eq o) (Some x) (row_of key xs)) (behind_key r (row_key x) key h all.0) ∙ none_after key r xs h all.1

none_begun : (key : Key) (ys : List (ℕ × Record)) → IsStrictlySortedBy key_cmp (map row_key ys) → begins_by key ys ≡ false → row_of key ys ≡ None
unfolding IsStrictlySortedBy
none_begun key [] s t = refl
none_begun key (r ∷ rs) s t =
    let h : key_cmp (row_key r) key ≡ Greater = greater _ t in
    ap (λ o. cond (is_eq o) (Some r) (row_of key rs)) h ∙ none_after key (row_key r) rs h s.0

-- where it does not, its row is not in the later one
row_of-earlier : (key : Key) (xs ys : List (ℕ × Record)) → IsStrictlySortedBy key_cmp (map row_key (xs ++ ys)) → begins_by key ys ≡ false → row_of key (xs ++ ys) ≡ row_of key xs
unfolding IsStrictlySortedBy
row_of-earlier key [] ys s t = none_begun key ys s t
row_of-earlier key (x ∷ xs) ys s t =
    ap (λ o. cond (keys_equal (row_key x) key) (Some x) o) (row_of-earlier key xs ys s.1 t)

-- ---- rows in pages
pub rows-take-drop : (pages : List (Vec (ℕ × Record))) (i : ℕ) → rows_of_pages pages ≡ rows_of_pages (take i pages) ++ rows_of_pages (drop i pages)
rows-take-drop pages zero = refl
rows-take-drop [] (suc i) = refl
rows-take-drop (p ∷ pages) (suc i) =
    ap (λ x. p.items ++ x) (rows-take-drop pages i)
    ∙ sym (append_assoc p.items (rows_of_pages (take i pages)) _)

-- what a search among these pages knows of all of them
pub record Narrows (key : Key) (all left : List (Vec (ℕ × Record))) : Type 0 where
  pub sorted : IsStrictlySortedBy key_cmp (map row_key (rows_of_pages left))
  pub same : row_of key (rows_of_pages left) ≡ row_of key (rows_of_pages all)

module _ (key : Key) (all left : List (Vec (ℕ × Record))) (narrows : Narrows key all left) (i : ℕ) where
  cut : Sorted (rows_of_pages (take i left) ++ rows_of_pages (drop i left))
  cut = subst Sorted (rows-take-drop left i) narrows.sorted

  pub Narrows-back : begins_by key (rows_of_pages (drop i left)) ≡ true → Narrows key all (drop i left)
  Narrows-back t = record {
    sorted = sorted-right (rows_of_pages (take i left)) (rows_of_pages (drop i left)) cut;
    same =
        sym (row_of-later key (rows_of_pages (take i left)) (rows_of_pages (drop i left)) cut t)
        ∙ ap (row_of key) (sym (rows-take-drop left i))
        ∙ narrows.same;
  }

  pub Narrows-front : begins_by key (rows_of_pages (drop i left)) ≡ false → Narrows key all (take i left)
  Narrows-front t = record {
    sorted = sorted-left (rows_of_pages (take i left)) (rows_of_pages (drop i left)) cut;
    same =
        sym (row_of-earlier key (rows_of_pages (take i left)) (rows_of_pages (drop i left)) cut t)
        ∙ ap (row_of key) (sym (rows-take-drop left i))
        ∙ narrows.same;
  }

-- where one page is left, the row is in it
pub Narrows-one : (key : Key) (all left : List (Vec (ℕ × Record))) → Narrows key all left → length left ≤ 1 → (page : Vec (ℕ × Record)) → Some page ≡ slice_get left 0 → IsStrictlySortedBy key_cmp (map row_key page.items) × (row_of key page.items ≡ row_of key (rows_of_pages all))
Narrows-one key all [] narrows few page e = absurd (cc e)
Narrows-one key all (p ∷ q ∷ rest) narrows few page e = absurd (omega arith)
Narrows-one key all (p ∷ []) narrows few page e =
    let same : p ≡ page = cc e in
    let rows : rows_of_pages (p ∷ []) ≡ page.items = append-nil p.items ∙ ap (λ (v : Vec (ℕ × Record)). v.items) same in
    (subst Sorted rows narrows.sorted, ap (row_of key) (sym rows) ∙ narrows.same)

pub Narrows-none : (key : Key) (all left : List (Vec (ℕ × Record))) → Narrows key all left → None ≡ slice_get left 0 → None ≡ row_of key (rows_of_pages all)
Narrows-none key all [] narrows e = narrows.same
Narrows-none key all (p ∷ rest) narrows e = absurd (cc e)

-- ---- the first row of pages
pub begins_by-some : (key : Key) (page rest : List (ℕ × Record)) (row : ℕ × Record) → Some row ≡ slice_get page 0 → begins_by key (page ++ rest) ≡ is_le (key_cmp (row_key row) key)
begins_by-some key [] rest row e = absurd (cc e)
begins_by-some key (r ∷ rs) rest row e = let same : r ≡ row = cc e in ap (λ (x : ℕ × Record). is_le (key_cmp (row_key x) key)) same

pub begins_by-none : (key : Key) (page rest : List (ℕ × Record)) → None ≡ slice_get page 0 → begins_by key (page ++ rest) ≡ begins_by key rest
begins_by-none key [] rest e = refl
begins_by-none key (r ∷ rs) rest e = absurd (cc e)
