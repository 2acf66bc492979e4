use Rattle.std.proofs.Common.{◌≡◌, ◌+◌, length, drop}
use Rattle.ipam_model.specs.Owners.{owners_in}
use Rattle.ipam_commands.proofs.audit_counted.owners_in_rows.Given as goal

abbrev pub invariant-loop-row : goal.invariant-loop-row
invariant-loop-row l = l.count + length (owners_in (drop l.row-index l.rows)) ≡ length (owners_in l.rows)
