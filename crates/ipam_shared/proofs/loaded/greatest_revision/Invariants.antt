use Rattle.std.proofs.Common.{◌≡◌, drop}
use Rattle.std.specs.Prelude.{max}
use Rattle.ipam_shared.specs.Rows.{greatest}
use Rattle.ipam_shared.proofs.loaded.greatest_revision.Given as goal

-- with what is still to come, it is the greatest of all
abbrev pub invariant-loop-row : goal.invariant-loop-row
invariant-loop-row l = max l.most (greatest (drop l.row-index l.rows)) ≡ greatest l.rows
