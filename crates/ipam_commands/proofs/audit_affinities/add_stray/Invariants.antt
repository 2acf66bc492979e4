use Rattle.std.proofs.Common.{◌≡◌, ◌++◌, drop}
use Rattle.ipam_commands.specs.Reported.{stray_in}
use Rattle.ipam_commands.proofs.audit_affinities.add_stray.Given as goal

abbrev pub invariant-loop-row : goal.invariant-loop-row
invariant-loop-row l = l.found.items ++ stray_in l.store.store (drop l.row-index l.rows) ≡ l.initial.found.items ++ stray_in l.store.store l.rows
