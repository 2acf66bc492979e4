use Rattle.std.proofs.Common.{ℕ}
use Rattle.ipam_records.specs.declared.record.Record.{Record}
use Rattle.ipam_commands.specs.Reported.{excess_of}
use Rattle.ipam_commands.proofs.AuditSteps.{step}
use Rattle.ipam_commands.proofs.audit_excess.add_of_rows.Goals as goal

pub loop-row-preserved : goal.loop-row-preserved
loop-row-preserved c =
    step (λ (row : ℕ × Record). excess_of c.args.store.now.store row.1) _ _ _ c.row-item.is c.loop-row-test.true _ _ _ c.loop-row.invariant c.in_ok-add_of_record.ensures
