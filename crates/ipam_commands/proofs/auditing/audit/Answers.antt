use Rattle.ipam_commands.proofs.Opened.{blocks_few}
use Rattle.ipam_commands.proofs.auditing.audit.Goals as goal

pub report_on-requires-clause-few_blocks : goal.report_on-requires-clause-few_blocks
report_on-requires-clause-few_blocks g c = λ κs within. blocks_few _ _ c.in_ok-store.ensures.opened
