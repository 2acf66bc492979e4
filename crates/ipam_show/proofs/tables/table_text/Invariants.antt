use Rattle.std.proofs.Common.{◌≡◌, ◌++◌, drop}
use Rattle.std.specs.String.{string_bytes}
use Rattle.ipam_show.specs.Columns.{lines}
use Rattle.ipam_show.proofs.tables.table_text.Given as goal

-- with what is still to come, it is the text of all
abbrev pub invariant-loop-row : goal.invariant-loop-row
invariant-loop-row l = string_bytes l.text ++ lines l.widths.items (drop l.row-index l.rows) ≡ lines l.widths.items l.rows
