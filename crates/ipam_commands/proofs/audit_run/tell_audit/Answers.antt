use Rattle.std.proofs.Common.{◌≡◌, inl}
use Rattle.ipam_shared.specs.declared.kept.KeptFault.TheVariants as fault
use Rattle.ipam_commands.specs.Telling.{NotOpened, Opened}
use Rattle.ipam_commands.proofs.Wanting.{line_wants, untold_wants}
use Rattle.ipam_commands.specs.Printed.{report_text}
use Rattle.ipam_commands.specs.Reported.{report_of}
use Rattle.ipam_commands.proofs.audit_run.tell_audit.Goals as goal

pub returns-in-Ok-clause-told : goal.returns-in-Ok-clause-told
returns-in-Ok-clause-told g c =
    let is = c.in-Ok.ensures.reported in
    Opened is.rows is.store is.opened c.in-Ok.ensures.no_fault
    (c.tell_made.ensures.written (report_text (report_of is.store)) (rw is.report_is at c.text-text.ensures.text))

pub returns-in-Err-clause-told : goal.returns-in-Err-clause-told
returns-in-Err-clause-told g c = NotOpened c.in-Err.fault c.in-Err.ensures.refused c.tell_fault.ensures.written

pub returns-in-Ok-clause-want_of_memory_has_its_cause : goal.returns-in-Ok-clause-want_of_memory_has_its_cause
returns-in-Ok-clause-want_of_memory_has_its_cause g c =
    λ is. inl (line_wants (g.T.Audits.wants c.args.alloc) c.text-text.result c.tell_made.result c.text-text.ensures.wants c.tell_made.ensures.told is)

pub returns-in-Err-clause-want_of_memory_has_its_cause : goal.returns-in-Err-clause-want_of_memory_has_its_cause
returns-in-Err-clause-want_of_memory_has_its_cause g c =
    λ is. untold_wants (c.in-Err.fault ≡ fault.Memory) (g.T.Audits.wants c.args.alloc) (g.T.MakesBroken.wants c.args.alloc)
    c.in-Err.ensures.want_of_memory_has_its_cause (c.tell_fault.ensures.want_of_memory_has_its_cause is)
