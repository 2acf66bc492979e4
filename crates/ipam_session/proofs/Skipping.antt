-- Rows that stand before the key are passed over.
use Rattle.std.proofs.Common.{◌≡◌, ℕ, zero, suc, ◌-◌, List, [], ◌∷◌, ◌++◌, Option, Some, length, length-drop, take, drop, is_gt, if◌then◌else◌, refl, sym, ap, ◌∙◌, append_assoc}
use Rattle.std.specs.Global.{Vec}
use Rattle.std.specs.List.{AllByRecursion}
use Rattle.std.specs.declared.cmp.Ordering.{Ordering}
use Rattle.std.specs.declared.cmp.Ordering.TheVariants.{Less}
use Rattle.std.proofs.lemmas.List.Elements.{recursion_from_All}
use Rattle.std.proofs.Math.Seq.{take-length}
use Rattle.ipam_records.specs.declared.key.Key.{Key}
use Rattle.ipam_records.specs.declared.record.Record.{Record}
use Rattle.ipam_records.specs.Datastore.{row_key}
use Rattle.ipam_records.specs.KeyOrder.{key_cmp}
use Rattle.ipam_records.specs.Pages.{rows_of_pages}
use Rattle.ipam_store.specs.Places.{AllBefore, IsBefore}
use Rattle.ipam_session.specs.Page.{SoFar, taken_from, with_next, with_taken}
use Rattle.ipam_session.proofs.Taking.{taken-append}

before-next : (key : Key) (taken : SoFar) (row : ℕ × Record) → key_cmp (row_key row) key ≡ Less → with_next (Some key) taken row ≡ taken
before-next key taken row less = ap (λ (o : Ordering). if is_gt o then with_taken taken row else taken) less

before-rows : (key : Key) (taken : SoFar) (rows : List (ℕ × Record)) → AllByRecursion (IsBefore key) rows → taken_from (Some key) taken rows ≡ taken
before-rows key taken [] all = refl
before-rows key taken (row ∷ rows) all =
    ap (λ (t : SoFar). taken_from (Some key) t rows) (before-next key taken row all.0) ∙ before-rows key taken rows all.1

pages-join : (pages : List (Vec (ℕ × Record))) (i : ℕ) → rows_of_pages pages ≡ rows_of_pages (take i pages) ++ rows_of_pages (drop i pages)
pages-join pages zero = refl
pages-join [] (suc i) = refl
pages-join (page ∷ pages) (suc i) =
    ap (λ (rows : List (ℕ × Record)). page.items ++ rows) (pages-join pages i)
    ∙ sym (append_assoc page.items (rows_of_pages (take i pages)) (rows_of_pages (drop i pages)))

-- from a page on, before which all rows stand before the key
pub from-page : (key : Key) (pages : List (Vec (ℕ × Record))) (i : ℕ) → AllBefore key (rows_of_pages (take i pages)) → (taken : SoFar) → taken_from (Some key) taken (rows_of_pages (drop i pages)) ≡ taken_from (Some key) taken (rows_of_pages pages)
from-page key pages i before taken =
    let front = rows_of_pages (take i pages) in
    let back = rows_of_pages (drop i pages) in
    sym (ap (taken_from (Some key) taken) (pages-join pages i)
    ∙ (taken-append (Some key) taken front back
    ∙ ap (λ (t : SoFar). taken_from (Some key) t back) (before-rows key taken front (recursion_from_All (IsBefore key) front before))))

-- all of what is behind a place
pub all-behind : (pages : List (Vec (ℕ × Record))) (i : ℕ) → drop i pages ≡ take (length pages - i) (drop i pages)
all-behind pages i = sym (ap (λ n. take n (drop i pages)) (sym (length-drop i pages)) ∙ take-length (drop i pages))
