-- Where an address is found, page by page.
use Rattle.std.proofs.Common.{◌≡◌, ℕ, ◌+◌, ◌<◌, Option, Some, None, List, [], ◌∷◌, ◌++◌, length, get_or, drop, ap, ◌∙◌, refl}
use Rattle.std.specs.Option.{option_or}
use Rattle.std.specs.Global.{Vec}
use Rattle.ipam_addr.specs.Shape.{AddrValue}
use Rattle.ipam_records.specs.declared.record.Record.{Record}
use Rattle.ipam_records.specs.Pages.{rows_of_pages}
use Rattle.ipam_records.proofs.PageLemmas.{rows_of_pages-drop}
use Rattle.ipam_show.specs.Address.{Held, held_at, held_in}

or-assoc : (one other third : Option Held) → option_or one (option_or other third) ≡ option_or (option_or one other) third
or-assoc None other third = refl
or-assoc (Some found) other third = refl

found-append : (a : AddrValue) (rows more : List (ℕ × Record)) → held_in a (rows ++ more) ≡ option_or (held_in a rows) (held_in a more)
found-append a [] more = refl
found-append a (row ∷ rows) more =
    ap (λ o. option_or (held_at a row.1) o) (found-append a rows more) ∙ or-assoc (held_at a row.1) (held_in a rows) (held_in a more)

-- in the page, or in what comes after it
pub found_page : (a : AddrValue) (pages : List (Vec (ℕ × Record))) (i : ℕ) (page : Vec (ℕ × Record)) → page ≡ get_or pages i page → i < length pages → held_in a (rows_of_pages (drop i pages)) ≡ option_or (held_in a page.items) (held_in a (rows_of_pages (drop (i + 1) pages)))
found_page a pages i page e h = ap (held_in a) (rows_of_pages-drop pages i page e h) ∙ found-append a page.items (rows_of_pages (drop (i + 1) pages))
