use Rattle.std.proofs.Common.{◌≡◌, ◌++◌, drop}
use Rattle.ipam_commands.specs.Reported.{stale_in}
use Rattle.ipam_commands.proofs.audit_affinities.add_stale.Given as goal

abbrev pub invariant-loop-row : goal.invariant-loop-row
invariant-loop-row l = l.found.items ++ stale_in (drop l.row-index l.rows) ≡ l.initial.found.items ++ stale_in l.rows
