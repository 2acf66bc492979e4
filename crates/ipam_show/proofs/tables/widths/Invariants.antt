use Rattle.std.proofs.Common.{◌≡◌, map}
use Rattle.std.specs.List.{range_with_len}
use Rattle.ipam_show.specs.Columns.{widest}
use Rattle.ipam_show.proofs.tables.widths.Given as goal

abbrev pub invariant-loop-column : goal.invariant-loop-column
invariant-loop-column l = l.found.items ≡ map (λ column. widest column l.rows) (range_with_len 0 l.column)
