-- The rows of pages, a page at a time.
use Rattle.std.proofs.Common.{◌≡◌, ℕ, zero, suc, ◌+◌, ◌-◌, ◌<◌, ◌≤◌, List, [], ◌∷◌, ◌++◌, length, get_or, drop, slice_get, refl, sym, ◌∙◌, ap, add-one, arith, length-append, drop-cons}
use Rattle.std.specs.Global.{Vec}
use Rattle.ipam_records.specs.declared.record.Record.{Record}
use Rattle.ipam_records.specs.Pages.{rows_of_pages}

slice_get-append-left : (xs ys : List (ℕ × Record)) (k : ℕ) → k < length xs → slice_get (xs ++ ys) k ≡ slice_get xs k
slice_get-append-left [] ys k h = absurd (omega arith)
slice_get-append-left (x ∷ xs) ys zero h = refl
slice_get-append-left (x ∷ xs) ys (suc k) h = slice_get-append-left xs ys k (omega arith)

slice_get-append-right : (xs ys : List (ℕ × Record)) (k : ℕ) → slice_get (xs ++ ys) (length xs + k) ≡ slice_get ys k
slice_get-append-right [] ys k = let e : 0 + k ≡ k = omega arith in ap (slice_get ys) e
slice_get-append-right (x ∷ xs) ys k =
    let e : length (x ∷ xs) + k ≡ suc (length xs + k) = omega arith in
    ap (slice_get (x ∷ (xs ++ ys))) e ∙ slice_get-append-right xs ys k

-- the rows from one page on
pub rows_of_pages-drop : (pages : List (Vec (ℕ × Record))) (i : ℕ) (page : Vec (ℕ × Record)) → page ≡ get_or pages i page → i < length pages → rows_of_pages (drop i pages) ≡ page.items ++ rows_of_pages (drop (i + 1) pages)
rows_of_pages-drop pages i page e h =
    (rw (add-one, drop-cons pages i page) refl) ∙ ap (λ (p : Vec (ℕ × Record)). p.items ++ rows_of_pages (drop (i + 1) pages)) (sym e)

-- how many rows there are from one page on
pub length-rows_of_pages-drop : (pages : List (Vec (ℕ × Record))) (i : ℕ) (page : Vec (ℕ × Record)) → page ≡ get_or pages i page → i < length pages → length (rows_of_pages (drop i pages)) ≡ length page.items + length (rows_of_pages (drop (i + 1) pages))
length-rows_of_pages-drop pages i page e h =
    ap length (rows_of_pages-drop pages i page e h) ∙ length-append page.items (rows_of_pages (drop (i + 1) pages))

-- a row of this page
pub row_of_page : (pages : List (Vec (ℕ × Record))) (i k : ℕ) (page : Vec (ℕ × Record)) → page ≡ get_or pages i page → i < length pages → k < length page.items → slice_get (rows_of_pages (drop i pages)) k ≡ slice_get page.items k
row_of_page pages i k page e h within =
    ap (λ (rows : List (ℕ × Record)). slice_get rows k) (rows_of_pages-drop pages i page e h)
    ∙ slice_get-append-left page.items (rows_of_pages (drop (i + 1) pages)) k within

-- a row of a later page
pub row_past_page : (pages : List (Vec (ℕ × Record))) (i k : ℕ) (page : Vec (ℕ × Record)) → page ≡ get_or pages i page → i < length pages → length page.items ≤ k → slice_get (rows_of_pages (drop i pages)) k ≡ slice_get (rows_of_pages (drop (i + 1) pages)) (k - length page.items)
row_past_page pages i k page e h past =
    let split : k ≡ length page.items + (k - length page.items) = omega arith in
    ap (λ (rows : List (ℕ × Record)). slice_get rows k) (rows_of_pages-drop pages i page e h)
    ∙ (ap (slice_get (page.items ++ rows_of_pages (drop (i + 1) pages))) split
    ∙ slice_get-append-right page.items (rows_of_pages (drop (i + 1) pages)) (k - length page.items))
