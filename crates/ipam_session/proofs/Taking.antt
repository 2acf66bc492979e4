-- Rows are taken one after the other.
use Rattle.std.proofs.Common.{◌≡◌, ℕ, ◌+◌, ◌-◌, ◌<◌, Bool, true, false, nat_lt, List, [], ◌∷◌, ◌++◌, Option, length, get_or, drop, if◌then◌else◌, refl, sym, ap, ◌∙◌}
use Rattle.std.specs.Global.{Vec}
use Rattle.ipam_records.specs.declared.key.Key.{Key}
use Rattle.ipam_records.specs.declared.record.Record.{Record}
use Rattle.ipam_records.specs.Pages.{rows_of_pages}
use Rattle.ipam_records.proofs.PageLemmas.{rows_of_pages-drop}
use Rattle.ipam_session.specs.Page.{SoFar, is_after, parts_of, taken_from, with_next, with_taken}

pub taken-append : (after : Option Key) (taken : SoFar) (rows more : List (ℕ × Record)) → taken_from after taken (rows ++ more) ≡ taken_from after (taken_from after taken rows) more
taken-append after taken [] more = refl
taken-append after taken (row ∷ rows) more = taken-append after (with_next after taken row) rows more

-- ---- once a row was left out

full-taken : (taken : SoFar) (row : ℕ × Record) → taken.room ≡ 0 → taken.more ≡ true → with_taken taken row ≡ taken
full-taken taken row none more =
    ap (λ (n : ℕ). if nat_lt 0 n then (record { rows = taken.rows ++ row ∷ []; room = taken.room - parts_of row.1; more = taken.more }) else (record taken { more = true })) none
    ∙ ap (λ (m : Bool). record taken { more = m }) (sym more)

full-next : (after : Option Key) (taken : SoFar) (row : ℕ × Record) → taken.room ≡ 0 → taken.more ≡ true → with_next after taken row ≡ taken
full-next after taken row none more = by (is_after after row.1)
  where
    by : (b : Bool) → (if b then with_taken taken row else taken) ≡ taken
    by true = full-taken taken row none more
    by false = refl

pub full-stays : (after : Option Key) (taken : SoFar) (rows : List (ℕ × Record)) → taken.room ≡ 0 → taken.more ≡ true → taken_from after taken rows ≡ taken
full-stays after taken [] none more = refl
full-stays after taken (row ∷ rows) none more =
    ap (λ (t : SoFar). taken_from after t rows) (full-next after taken row none more) ∙ full-stays after taken rows none more

-- ---- page after page

pub page-step : (after : Option Key) (pages : List (Vec (ℕ × Record))) (i : ℕ) (page : Vec (ℕ × Record)) → page ≡ get_or pages i page → i < length pages → (taken next all : SoFar) → taken_from after taken (rows_of_pages (drop i pages)) ≡ all → next ≡ taken_from after taken page.items → taken_from after next (rows_of_pages (drop (i + 1) pages)) ≡ all
page-step after pages i page e h taken next all so_far is =
    let rest = rows_of_pages (drop (i + 1) pages) in
    ap (λ (t : SoFar). taken_from after t rest) is
    ∙ (sym (taken-append after taken page.items rest)
    ∙ (sym (ap (taken_from after taken) (rows_of_pages-drop pages i page e h)) ∙ so_far))
