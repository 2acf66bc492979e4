use Rattle.ipam_shared.proofs.TextRows.{ascend-by_key}
use Rattle.ipam_commands.proofs.audit_run.audit_loaded.Goals as goal

pub audit-requires-clause-by_key : goal.audit-requires-clause-by_key
audit-requires-clause-by_key g c = λ κs within. ascend-by_key c.args.rows.items c.requires.by_key
