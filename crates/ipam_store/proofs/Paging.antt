-- Rows in pages: which page a key is for, and what a write there does to all rows.
use Rattle.std.proofs.Common.{◌≡◌, ℕ, zero, suc, ◌+◌, ◌-◌, ◌<◌, ◌≤◌, inl, inr, List, [], ◌∷◌, ◌++◌, length, get_or, set, take, drop, map, true, false, Option, Some, None, IsSome, refl, sym, ap, ◌∙◌, subst, arith, length-append, append_assoc}
use Rattle.std.proofs.lemmas.Bool.{cases_lt, cases_eq}
use Rattle.std.proofs.lemmas.List.{get_or-take, length-take-le, drop_all, get_or-set_same, get_or-set_other, length-set}
use Rattle.std.proofs.lemmas.List.Elements.{All-nil, All-cons, All-head, All-tail}
use Rattle.std.specs.declared.cmp.Ordering.TheVariants.{Less, Greater}
use Rattle.std.specs.Ordering.{is_le}
use Rattle.std.specs.Global.{Vec}
use Rattle.std.specs.List.{All, AllByRecursion, insert, remove}
use Rattle.std.specs.List.Sorted.{IsStrictlySortedBy, IsPartitionedBy, IsPartitionPoint}
use Rattle.ipam_records.specs.declared.key.Key.{Key}
use Rattle.ipam_records.specs.declared.record.Record.{Record}
use Rattle.ipam_records.specs.KeyOrder.{key_cmp}
use Rattle.ipam_records.specs.Datastore.{row_key, row_of, with_row, without_row}
use Rattle.ipam_records.specs.Pages.{rows_of_pages}
use Rattle.ipam_store.specs.Places.{Ascend, IsBefore, IsBehind, AllBefore, AllBehind, begins_by}
use Rattle.ipam_store.specs.declared.pages.TheConstants.{PAGE_ROWS}
use Rattle.ipam_store.specs.Page.{IsPage, IsPageFor, AreFilledBut}
use Rattle.ipam_records.proofs.RowSearch.{key_between, before_key, greater, behind_key, sorted-left, sorted-right}
use Rattle.ipam_store.proofs.Parts.{row_of-right, row_of-left, with_row-right, with_row-left, without-right, without-left}

-- ---- the order of rows in parts
all_rows_by_key : (P : Key → Type 0) (xs : List (ℕ × Record)) → AllByRecursion P (map row_key xs) → All (λ r. P (row_key r)) xs
all_rows_by_key P [] all = All-nil (λ (r : ℕ × Record). P (row_key r))
all_rows_by_key P (x ∷ xs) all = All-cons (λ (r : ℕ × Record). P (row_key r)) x xs all.0 (all_rows_by_key P xs all.1)

-- the rows before a row are below it, and those after it above
below : (xs : List (ℕ × Record)) (r : ℕ × Record) (ys : List (ℕ × Record)) → IsStrictlySortedBy key_cmp (map row_key (xs ++ r ∷ ys)) → All (λ x. key_cmp (row_key x) (row_key r) ≡ Less) xs
unfolding IsStrictlySortedBy
below [] r ys s = All-nil (λ (x : ℕ × Record). key_cmp (row_key x) (row_key r) ≡ Less)
below (x ∷ xs) r ys s =
    All-cons (λ (x : ℕ × Record). key_cmp (row_key x) (row_key r) ≡ Less) x xs
    (key_between (λ y. key_cmp (row_key x) y ≡ Less) xs r ys s.0) (below xs r ys s.1)

above : (r : ℕ × Record) (ys : List (ℕ × Record)) → IsStrictlySortedBy key_cmp (map row_key (r ∷ ys)) → All (λ y. key_cmp (row_key r) (row_key y) ≡ Less) ys
unfolding IsStrictlySortedBy
above r ys s = all_rows_by_key (λ y. key_cmp (row_key r) y ≡ Less) ys s.0

front_before : (key : Key) (front page rest : List (ℕ × Record)) → 1 ≤ length page → IsStrictlySortedBy key_cmp (map row_key (front ++ (page ++ rest))) → begins_by key page ≡ true → AllBefore key front
front_before key front [] rest some s t = absurd (omega arith)
front_before key front (r ∷ rs) rest some s t =
    λ k d h. before_key _ (row_key r) key (below front r (rs ++ rest) s k d h) (key_cmp (row_key r) key) refl t

rest_behind : (key : Key) (page rest : List (ℕ × Record)) → 1 ≤ length page → IsStrictlySortedBy key_cmp (map row_key (page ++ rest)) → begins_by key page ≡ false → AllBehind key (page ++ rest)
rest_behind key [] rest some s t = absurd (omega arith)
rest_behind key (r ∷ rs) rest some s t =
    let first : key_cmp (row_key r) key ≡ Greater = greater _ t in
    All-cons (IsBehind key) r (rs ++ rest) first (λ k d h. behind_key (row_key r) _ key first (above r (rs ++ rest) s k d h))

-- ---- all rows as those of earlier pages, of one page, and of later pages
pub rows-cut : (ps : List (Vec (ℕ × Record))) (i : ℕ) (d : Vec (ℕ × Record)) → i < length ps → rows_of_pages ps ≡ rows_of_pages (take i ps) ++ ((get_or ps i d).items ++ rows_of_pages (drop (suc i) ps))
rows-cut [] i d h = absurd (omega arith)
rows-cut (p ∷ ps) zero d h = refl
rows-cut (p ∷ ps) (suc i) d h =
    ap (λ x. p.items ++ x) (rows-cut ps i d (omega arith))
    ∙ sym (append_assoc p.items (rows_of_pages (take i ps)) _)

rows-set : (ps : List (Vec (ℕ × Record))) (i : ℕ) (q : Vec (ℕ × Record)) → i < length ps → rows_of_pages (set ps i q) ≡ rows_of_pages (take i ps) ++ (q.items ++ rows_of_pages (drop (suc i) ps))
rows-set [] i q h = absurd (omega arith)
rows-set (p ∷ ps) zero q h = refl
rows-set (p ∷ ps) (suc i) q h =
    ap (λ x. p.items ++ x) (rows-set ps i q (omega arith))
    ∙ sym (append_assoc p.items (rows_of_pages (take i ps)) _)

rows-drop : (ps : List (Vec (ℕ × Record))) (i : ℕ) (d : Vec (ℕ × Record)) → i < length ps → rows_of_pages (drop i ps) ≡ (get_or ps i d).items ++ rows_of_pages (drop (suc i) ps)
rows-drop [] i d h = absurd (omega arith)
rows-drop (p ∷ ps) zero d h = refl
rows-drop (p ∷ ps) (suc i) d h = rows-drop ps i d (omega arith)

-- a page without rows can go
pub rows-remove : (ps : List (Vec (ℕ × Record))) (i : ℕ) (d : Vec (ℕ × Record)) → i < length ps → (get_or ps i d).items ≡ [] → rows_of_pages (remove ps i) ≡ rows_of_pages ps
rows-remove [] i d h none = absurd (omega arith)
rows-remove (p ∷ ps) zero d h none = sym (ap (λ x. x ++ rows_of_pages ps) none)
rows-remove (p ∷ ps) (suc i) d h none = ap (λ x. p.items ++ x) (rows-remove ps i d (omega arith) none)

-- a page is split in two
pub rows-split : (ps : List (Vec (ℕ × Record))) (i : ℕ) (d first second : Vec (ℕ × Record)) → i < length ps → first.items ++ second.items ≡ (get_or ps i d).items → rows_of_pages (insert (set ps i first) (suc i) second) ≡ rows_of_pages ps
rows-split [] i d first second h e = absurd (omega arith)
rows-split (p ∷ ps) zero d first second h e =
    sym (append_assoc first.items second.items (rows_of_pages ps)) ∙ ap (λ x. x ++ rows_of_pages ps) e
rows-split (p ∷ ps) (suc i) d first second h e =
    ap (λ x. p.items ++ x) (rows-split ps i d first second (omega arith) e)

pub take-split : (ps : List (Vec (ℕ × Record))) (i : ℕ) (first second : Vec (ℕ × Record)) → i < length ps → take i (insert (set ps i first) (suc i) second) ≡ take i ps
take-split [] i first second h = absurd (omega arith)
take-split (p ∷ ps) zero first second h = refl
take-split (p ∷ ps) (suc i) first second h = ap (λ x. p ∷ x) (take-split ps i first second (omega arith))

pub drop-split : (ps : List (Vec (ℕ × Record))) (i : ℕ) (first second : Vec (ℕ × Record)) → i < length ps → drop (suc (suc i)) (insert (set ps i first) (suc i) second) ≡ drop (suc i) ps
drop-split [] i first second h = absurd (omega arith)
drop-split (p ∷ ps) zero first second h = refl
drop-split (p ∷ ps) (suc i) first second h = drop-split ps i first second (omega arith)

pub first-split : (ps : List (Vec (ℕ × Record))) (i : ℕ) (first second d : Vec (ℕ × Record)) → i < length ps → get_or (insert (set ps i first) (suc i) second) i d ≡ first
first-split [] i first second d h = absurd (omega arith)
first-split (p ∷ ps) zero first second d h = refl
first-split (p ∷ ps) (suc i) first second d h = first-split ps i first second d (omega arith)

pub second-split : (ps : List (Vec (ℕ × Record))) (i : ℕ) (first second d : Vec (ℕ × Record)) → i < length ps → get_or (insert (set ps i first) (suc i) second) (suc i) d ≡ second
second-split [] i first second d h = absurd (omega arith)
second-split (p ∷ ps) zero first second d h = refl
second-split (p ∷ ps) (suc i) first second d h = second-split ps i first second d (omega arith)

-- ---- what holds of each page
pub All-insert : {X : Type 0} (P : X → Type 0) (xs : List X) (i : ℕ) (y : X) → i ≤ length xs → P y → All P xs → All P (insert xs i y)
All-insert P xs zero y h p all = All-cons P y xs p all
All-insert P [] (suc i) y h p all = absurd (omega arith)
All-insert P (x ∷ xs) (suc i) y h p all =
    All-cons P x (insert xs i y) (All-head P x xs all) (All-insert P xs i y (omega arith) p (All-tail P x xs all))

pub All-remove : {X : Type 0} (P : X → Type 0) (xs : List X) (i : ℕ) → i < length xs → All P xs → All P (remove xs i)
All-remove P [] i h all = absurd (omega arith)
All-remove P (x ∷ xs) zero h all = All-tail P x xs all
All-remove P (x ∷ xs) (suc i) h all =
    All-cons P x (remove xs i) (All-head P x xs all) (All-remove P xs i (omega arith) (All-tail P x xs all))

-- where the others are filled, and this one too
pub filled-set : (ps : List (Vec (ℕ × Record))) (i : ℕ) (q : Vec (ℕ × Record)) → AreFilledBut ps i → IsPage q → All IsPage (set ps i q)
filled-set ps i q but p k d h = elim (cases_eq k i) [
  | inl same ↦
      let here : i < length ps = omega (arith, length-set ps i q) in
      let e : get_or (set ps i q) k d ≡ q = ap (λ n. get_or (set ps i q) n d) same ∙ get_or-set_same ps i q d here in
      subst IsPage (sym e) p
  | inr other ↦
      let here : k < length ps = omega (arith, length-set ps i q) in
      subst IsPage (sym (get_or-set_other ps i k q d other)) (but.each k d other here)
]

pub filled-all : (ps : List (Vec (ℕ × Record))) (i : ℕ) → All IsPage ps → AreFilledBut ps i
filled-all ps i all = record { each = λ k d other h. all k d h }

-- ---- the page of a key
module _ (ps : List (Vec (ℕ × Record))) (ascend : Ascend (rows_of_pages ps)) (filled : All IsPage ps) (key : Key) where
  pub before_page : (i : ℕ) (d : Vec (ℕ × Record)) → i < length ps → begins_by key (get_or ps i d).items ≡ true → AllBefore key (rows_of_pages (take i ps))
  before_page i d h t =
      let sorted = subst (λ rows. IsStrictlySortedBy key_cmp (map row_key rows)) (rows-cut ps i d h) ascend.keys in
      front_before key (rows_of_pages (take i ps)) (get_or ps i d).items (rows_of_pages (drop (suc i) ps)) (filled i d h).some sorted t

  pub behind_page : (i : ℕ) (d : Vec (ℕ × Record)) → i < length ps → begins_by key (get_or ps i d).items ≡ false → AllBehind key (rows_of_pages (drop i ps))
  behind_page i d h t =
      let sorted = subst (λ rows. IsStrictlySortedBy key_cmp (map row_key rows)) (rows-cut ps i d h) ascend.keys in
      let later = sorted-right (rows_of_pages (take i ps)) ((get_or ps i d).items ++ rows_of_pages (drop (suc i) ps)) sorted in
      subst (AllBehind key) (sym (rows-drop ps i d h)) (rest_behind key (get_or ps i d).items (rows_of_pages (drop (suc i) ps)) (filled i d h).some later t)

  behind_last : (i : ℕ) → length ps ≤ i → AllBehind key (rows_of_pages (drop i ps))
  behind_last i h = subst (λ rest. AllBehind key (rows_of_pages rest)) (sym (drop_all i ps h)) (All-nil (IsBehind key))

  first_begins : (page rest : List (ℕ × Record)) → 1 ≤ length page → AllBefore key (page ++ rest) → begins_by key page ≡ true
  first_begins [] rest some all = absurd (omega arith)
  first_begins (r ∷ rs) rest some all = ap is_le (All-head (IsBefore key) r (rs ++ rest) all)

  later_part : (xs ys : List (ℕ × Record)) → AllBefore key (xs ++ ys) → AllBefore key ys
  later_part [] ys all = all
  later_part (x ∷ xs) ys all = later_part xs ys (All-tail (IsBefore key) x (xs ++ ys) all)

  earlier_begins : (i j : ℕ) (d : Vec (ℕ × Record)) → i < j → j < length ps → begins_by key (get_or ps j d).items ≡ true → begins_by key (get_or ps i d).items ≡ true
  earlier_begins i j d less h t =
      let all = before_page j d h t in
      let within : i < length (take j ps) = omega (arith, length-take-le j ps (omega arith)) in
      let same : get_or (take j ps) i d ≡ get_or ps i d = get_or-take j ps i d less in
      let cut = subst (AllBefore key) (rows-cut (take j ps) i d within) all in
      let page = later_part (rows_of_pages (take i (take j ps))) ((get_or (take j ps) i d).items ++ rows_of_pages (drop (suc i) (take j ps))) cut in
      let some : 1 ≤ length (get_or (take j ps) i d).items = subst (λ (p : Vec (ℕ × Record)). 1 ≤ length p.items) (sym same) (filled i d (omega arith)).some in
      ap (λ (p : Vec (ℕ × Record)). begins_by key p.items) (sym same)
      ∙ first_begins (get_or (take j ps) i d).items (rows_of_pages (drop (suc i) (take j ps))) some page

  pub pages_parted : IsPartitionedBy (λ page. begins_by key page.items) ps
  pages_parted i j d le h t = elim (cases_lt i j) [
    | inl less ↦ earlier_begins i j d less h t
    | inr reached ↦
        let same : j ≡ i = omega arith in
        subst (λ k. begins_by key (get_or ps k d).items ≡ true) same t
  ]

  page_by : (d : Vec (ℕ × Record)) (p : ℕ) → 0 < length ps → p ≤ length ps → IsPartitionPoint (λ page. begins_by key page.items ≡ true) (λ page. begins_by key page.items ≡ false) ps p → IsPageFor ps key (p - 1)
  page_by d zero some le parted = record {
    within = some;
    before = All-nil (IsBefore key);
    behind = elim (cases_lt 1 (length ps)) [
      | inl more ↦ behind_page 1 d more (parted.1 1 d (omega arith) more)
      | inr one ↦ behind_last 1 one
    ];
  }
  page_by d (suc p) some le parted =
      let next : p + 1 ≡ suc p = omega arith in
      let here : suc p - 1 ≡ p = omega arith in
      let rest : AllBehind key (rows_of_pages (drop (suc p) ps)) = elim (cases_lt (suc p) (length ps)) [
        | inl more ↦ behind_page (suc p) d more (parted.1 (suc p) d (omega arith) more)
        | inr last ↦ behind_last (suc p) last
      ] in
      let page : IsPageFor ps key p = record {
        within = omega arith;
        before = before_page p d (omega arith) (parted.0 p d (omega arith) (omega arith));
        behind = subst (λ k. AllBehind key (rows_of_pages (drop k ps))) (sym next) rest;
      } in
      subst (IsPageFor ps key) (sym here) page

  pub page_at_point : (p : ℕ) → 0 < length ps → p ≤ length ps → IsPartitionPoint (λ page. begins_by key page.items ≡ true) (λ page. begins_by key page.items ≡ false) ps p → IsPageFor ps key (p - 1)
  page_at_point = from_first ps refl
    where
      from_first : (qs : List (Vec (ℕ × Record))) → qs ≡ ps → (p : ℕ) → 0 < length ps → p ≤ length ps → IsPartitionPoint (λ page. begins_by key page.items ≡ true) (λ page. begins_by key page.items ≡ false) ps p → IsPageFor ps key (p - 1)
      from_first [] e p some le parted = let none = ap length e in absurd (omega arith)
      from_first (q ∷ qs) e p some le parted = page_by q p some le parted

  -- of two neighbouring pages, the later one where it begins by the key
  pub later_half : (i : ℕ) (d : Vec (ℕ × Record)) → i + 1 < length ps → begins_by key (get_or ps (i + 1) d).items ≡ true → AllBehind key (rows_of_pages (drop (i + 2) ps)) → IsPageFor ps key (i + 1)
  later_half i d h t behind =
      let e : i + 2 ≡ (i + 1) + 1 = omega arith in
      record {
        within = h;
        before = before_page (i + 1) d h t;
        behind = subst (λ k. AllBehind key (rows_of_pages (drop k ps))) e behind;
      }

  pub earlier_half : (i : ℕ) (d : Vec (ℕ × Record)) → i + 1 < length ps → begins_by key (get_or ps (i + 1) d).items ≡ false → AllBefore key (rows_of_pages (take i ps)) → IsPageFor ps key i
  earlier_half i d h t before = record { within = omega arith; before = before; behind = behind_page (i + 1) d h t }

-- ---- what is read and written in the page of a key
module _ (ps : List (Vec (ℕ × Record))) (key : Key) (i : ℕ) (page : IsPageFor ps key i) (d : Vec (ℕ × Record)) where
  behind_here : AllBehind key (rows_of_pages (drop (suc i) ps))
  behind_here =
      let e : i + 1 ≡ suc i = omega arith in
      subst (λ k. AllBehind key (rows_of_pages (drop k ps))) e page.behind

  pub row_of-page : row_of key (rows_of_pages ps) ≡ row_of key (get_or ps i d).items
  row_of-page =
      ap (row_of key) (rows-cut ps i d page.within)
      ∙ row_of-right key (rows_of_pages (take i ps)) _ page.before
      ∙ row_of-left key (get_or ps i d).items _ behind_here

  pub without-page : (q : Vec (ℕ × Record)) → q.items ≡ without_row key (get_or ps i d).items → rows_of_pages (set ps i q) ≡ without_row key (rows_of_pages ps)
  without-page q e =
      rows-set ps i q page.within
      ∙ ap (λ x. rows_of_pages (take i ps) ++ (x ++ rows_of_pages (drop (suc i) ps))) e
      ∙ ap (λ x. rows_of_pages (take i ps) ++ x) (sym (without-left key (get_or ps i d).items _ behind_here))
      ∙ sym (without-right key (rows_of_pages (take i ps)) _ page.before)
      ∙ ap (without_row key) (sym (rows-cut ps i d page.within))

pub with-page : (ps : List (Vec (ℕ × Record))) (new : ℕ × Record) (i : ℕ) → IsPageFor ps (row_key new) i → (d q : Vec (ℕ × Record)) → q.items ≡ with_row new (get_or ps i d).items → rows_of_pages (set ps i q) ≡ with_row new (rows_of_pages ps)
with-page ps new i page d q e =
    rows-set ps i q page.within
    ∙ ap (λ x. rows_of_pages (take i ps) ++ (x ++ rows_of_pages (drop (suc i) ps))) e
    ∙ ap (λ x. rows_of_pages (take i ps) ++ x) (sym (with_row-left new (get_or ps i d).items _ (behind_here ps (row_key new) i page d)))
    ∙ sym (with_row-right new (rows_of_pages (take i ps)) _ page.before)
    ∙ ap (with_row new) (sym (rows-cut ps i d page.within))

-- the rows of a page ascend
pub Ascend-page : (ps : List (Vec (ℕ × Record))) → Ascend (rows_of_pages ps) → (i : ℕ) (d : Vec (ℕ × Record)) → i < length ps → Ascend (get_or ps i d).items
Ascend-page ps ascend i d h =
    let sorted = subst (λ rows. IsStrictlySortedBy key_cmp (map row_key rows)) (rows-cut ps i d h) ascend.keys in
    record { keys = sorted-left (get_or ps i d).items _ (sorted-right (rows_of_pages (take i ps)) _ sorted) }

-- how many rows there are where one page has more or fewer
pub length-set-page : (ps : List (Vec (ℕ × Record))) (i : ℕ) (d q : Vec (ℕ × Record)) → i < length ps → length (rows_of_pages (set ps i q)) + length (get_or ps i d).items ≡ length (rows_of_pages ps) + length q.items
length-set-page ps i d q h =
    let cut : length (rows_of_pages ps) ≡ length (rows_of_pages (take i ps)) + (length (get_or ps i d).items + length (rows_of_pages (drop (suc i) ps))) = ap length (rows-cut ps i d h) ∙ simp length-append in
    let new : length (rows_of_pages (set ps i q)) ≡ length (rows_of_pages (take i ps)) + (length q.items + length (rows_of_pages (drop (suc i) ps))) = ap length (rows-set ps i q h) ∙ simp length-append in
    omega arith

-- one page without rows
pub rows-one : (ps : List (Vec (ℕ × Record))) → length ps ≡ 1 → ((d : Vec (ℕ × Record)) → (get_or ps 0 d).items ≡ []) → rows_of_pages ps ≡ []
rows-one [] one empty = refl
rows-one (p ∷ []) one empty = ap (λ x. x ++ []) (empty p)
rows-one (p ∷ q ∷ ps) one empty = absurd (omega arith)

-- a page has no more rows than there are
pub page-length : (ps : List (Vec (ℕ × Record))) (i : ℕ) (d : Vec (ℕ × Record)) → i < length ps → length (get_or ps i d).items ≤ length (rows_of_pages ps)
page-length ps i d h =
    let cut : length (rows_of_pages ps) ≡ length (rows_of_pages (take i ps)) + (length (get_or ps i d).items + length (rows_of_pages (drop (suc i) ps))) = ap length (rows-cut ps i d h) ∙ simp length-append in
    omega arith

pub by_cases : (o : Option (ℕ × Record)) {R : Type 0} → (IsSome o → R) → (o ≡ None → R) → R
by_cases None some none = none refl
by_cases (Some r) some none = some refl

-- a row is put into the page of its key
module _ (ps : List (Vec (ℕ × Record))) (new : ℕ × Record) (i : ℕ) (page : IsPageFor ps (row_key new) i) (d q : Vec (ℕ × Record)) (replaced : IsSome (row_of (row_key new) (get_or ps i d).items) → length q.items ≡ length (get_or ps i d).items) (added : row_of (row_key new) (get_or ps i d).items ≡ None → length q.items ≡ length (get_or ps i d).items + 1) where
  pub put-replaced : IsSome (row_of (row_key new) (rows_of_pages ps)) → length (rows_of_pages (set ps i q)) ≡ length (rows_of_pages ps)
  put-replaced some =
      let same = replaced (subst IsSome (row_of-page ps (row_key new) i page d) some) in
      omega (arith, length-set-page ps i d q page.within, same)

  pub put-added : row_of (row_key new) (rows_of_pages ps) ≡ None → length (rows_of_pages (set ps i q)) ≡ length (rows_of_pages ps) + 1
  put-added none =
      let more = added (sym (row_of-page ps (row_key new) i page d) ∙ none) in
      omega (arith, length-set-page ps i d q page.within, more)

  pub put-grows : length (get_or ps i d).items ≤ length q.items
  put-grows =
      by_cases (row_of (row_key new) (get_or ps i d).items)
      (λ some. let e = replaced some in omega (arith, e)) (λ none. let e = added none in omega (arith, e))

  pub put-few : (row_of (row_key new) (get_or ps i d).items ≡ None → length (get_or ps i d).items < PAGE_ROWS) → length (get_or ps i d).items ≤ PAGE_ROWS → length q.items ≤ PAGE_ROWS
  put-few room few =
      by_cases (row_of (row_key new) (get_or ps i d).items)
      (λ some. let e = replaced some in omega (arith, e)) (λ none. let e = added none in let r = room none in omega (arith, e, r))

-- the count of all rows, where one page has more or fewer
pub counted_more : {count before after : ℕ} (old page new all : ℕ) → count ≡ old → before ≡ page → after ≡ new → page ≤ new → all + page ≡ old + new → count + (after - before) ≡ all
counted_more old page new all a b c d e = omega arith

pub counted_fewer : {count before after : ℕ} (old page new all : ℕ) → count ≡ old → before ≡ page → after ≡ new → new ≤ page → page ≤ old → all + page ≡ old + new → count - (before - after) ≡ all
counted_fewer old page new all a b c d part e = omega arith
