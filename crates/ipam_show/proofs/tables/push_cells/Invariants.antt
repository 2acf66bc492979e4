use Rattle.std.proofs.Common.{◌≡◌, ◌++◌, drop}
use Rattle.std.specs.String.{string_bytes}
use Rattle.ipam_show.specs.Columns.{cells_from}
use Rattle.ipam_show.proofs.tables.push_cells.Given as goal

abbrev pub invariant-loop-column : goal.invariant-loop-column
invariant-loop-column l =
    string_bytes l.text ++ cells_from l.column (drop l.column l.widths) l.row ≡ string_bytes l.initial.text ++ cells_from 0 l.widths l.row
