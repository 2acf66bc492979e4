use Rattle.std.proofs.Common.{◌≡◌, ◌++◌, drop}
use Rattle.ipam_commands.specs.Reported.{excess_in}
use Rattle.ipam_commands.proofs.audit_excess.add_of_rows.Given as goal

abbrev pub invariant-loop-row : goal.invariant-loop-row
invariant-loop-row l = l.found.items ++ excess_in l.store.store (drop l.row-index l.rows) ≡ l.initial.found.items ++ excess_in l.store.store l.rows
