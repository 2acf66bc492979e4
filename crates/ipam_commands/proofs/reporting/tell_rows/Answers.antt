use Rattle.std.proofs.Common.{◌≡◌, Err, ap, inr}
use Rattle.ipam_shared.specs.declared.kept.KeptFault.TheVariants as fault
use Rattle.ipam_commands.specs.Telling.{NotOpened, Opened}
use Rattle.ipam_commands.proofs.Wanting.{line_wants, unopened_wants}
use Rattle.ipam_commands.proofs.reporting.tell_rows.Goals as goal

pub text-text-requires : goal.text-text-requires
text-text-requires g c = c.in-Ok.ensures.opened.opens

pub returns-in-Ok-clause-told : goal.returns-in-Ok-clause-told
returns-in-Ok-clause-told g c =
    Opened c.in-Ok.loaded.rows.items c.in-Ok.loaded.store.store c.in-Ok.ensures.opened c.in-Ok.ensures.no_fault
    (c.tell_made.ensures.written (g.T.TellsRows.says c.args.tells.now c.in-Ok.loaded.rows.items c.in-Ok.loaded.store.store) c.text-text.ensures.said)

pub returns-in-Err-clause-told : goal.returns-in-Err-clause-told
returns-in-Err-clause-told g c = NotOpened c.in-Err.fault c.in-Err.ensures.refused c.tell_fault.ensures.written

pub returns-in-Ok-clause-want_of_memory_has_its_cause : goal.returns-in-Ok-clause-want_of_memory_has_its_cause
returns-in-Ok-clause-want_of_memory_has_its_cause g c =
    λ is. inr (inr (line_wants (g.T.TellsRows.wants c.args.tells.now) c.text-text.result c.tell_made.result c.text-text.ensures.wants c.tell_made.ensures.told is))

pub returns-in-Err-clause-want_of_memory_has_its_cause : goal.returns-in-Err-clause-want_of_memory_has_its_cause
returns-in-Err-clause-want_of_memory_has_its_cause g c =
    λ is. unopened_wants (c.in-Err.fault ≡ fault.Memory) (g.A.OpensRows.wants c.args.alloc) (g.A.MakesBroken.wants c.args.alloc) (g.T.TellsRows.wants c.args.tells.now)
    (λ none. c.in-Err.ensures.want_of_memory_has_its_cause (ap Err none)) (c.tell_fault.ensures.want_of_memory_has_its_cause is)
