use Rattle.ipam_commands.specs.Printed.{affinity_line}
use Rattle.ipam_commands.proofs.AuditSteps.{step}
use Rattle.ipam_commands.proofs.audit_printed.push_affinity_lines.Goals as goal

pub loop-affinity-preserved : goal.loop-affinity-preserved
loop-affinity-preserved c =
    step (affinity_line c.args.word.now) _ _ _ c.affinity-item.is c.loop-affinity-test.true _ _ _ c.loop-affinity.invariant c.in_ok-push_affinity.ensures
