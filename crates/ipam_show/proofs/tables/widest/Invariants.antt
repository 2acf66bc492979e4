use Rattle.std.proofs.Common.{◌≡◌, take}
use Rattle.ipam_show.specs.Columns.{widest}
use Rattle.ipam_show.proofs.tables.widest.Given as goal

abbrev pub invariant-loop-row : goal.invariant-loop-row
invariant-loop-row l = l.most ≡ widest l.column (take l.row-index l.rows)
