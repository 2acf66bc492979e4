-- Rows in pages.
use Rattle.std.specs.Prelude.{ℕ, List, [], ◌∷◌, ◌++◌}
use Rattle.std.specs.Global.{Vec}
use Rattle.ipam_records.specs.declared.record.Record.{Record}

-- the rows, each a revision and a record, all pages one after the other
abbrev pub rows_of_pages : List (Vec (ℕ × Record)) → List (ℕ × Record)
rows_of_pages [] = []
rows_of_pages (page ∷ pages) = page.items ++ rows_of_pages pages
