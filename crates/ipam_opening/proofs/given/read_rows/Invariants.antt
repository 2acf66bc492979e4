use Rattle.std.proofs.Common.{◌≡◌, ◌++◌, drop, map}
use Rattle.ipam_model.specs.Opened.{reading_of}
use Rattle.ipam_opening.proofs.given.read_rows.Given as goal

abbrev pub invariant-loop-row : goal.invariant-loop-row
invariant-loop-row l = l.readings.items ++ map reading_of (drop l.row-index l.rows) ≡ map reading_of l.rows
