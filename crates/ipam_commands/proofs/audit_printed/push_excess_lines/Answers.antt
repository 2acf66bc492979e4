use Rattle.ipam_commands.specs.Printed.{excess_line}
use Rattle.ipam_commands.proofs.AuditSteps.{step}
use Rattle.ipam_commands.proofs.audit_printed.push_excess_lines.Goals as goal

pub loop-one-preserved : goal.loop-one-preserved
loop-one-preserved c =
    step excess_line _ _ _ c.one-item.is c.loop-one-test.true _ _ _ c.loop-one.invariant c.in_ok-push_excess.ensures
