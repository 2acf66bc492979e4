use Rattle.std.proofs.Common.{Ok, Err, rules}
use Rattle.ipam_commands.specs.Printed.{report_text}
use Rattle.ipam_operator.proofs.AuditSaying.{fault_says}
use Rattle.ipam_operator.proofs.auditing.audit.Goals as goal

pub returns-in-Ok-clause-told : goal.returns-in-Ok-clause-told
returns-in-Ok-clause-told g c =
    (Ok c.in-Ok.report, c.in-Ok.ensures.looked.0, c.in-Ok.ensures.looked.1, c.tell_made.ensures.written (report_text c.in-Ok.report) (search rules))

pub returns-in-Err-clause-told : goal.returns-in-Err-clause-told
returns-in-Err-clause-told g c =
    (Err c.in-Err.fault, c.in-Err.ensures.looked.0, c.in-Err.ensures.looked.1, fault_says _ _ _ _ _ _ _ _ c.tell_fault.ensures.told)
