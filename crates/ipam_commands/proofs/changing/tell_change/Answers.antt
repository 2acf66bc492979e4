use Rattle.std.proofs.Common.{◌≡◌, Ok, Err, ap}
use Rattle.ipam_shared.specs.declared.kept.KeptFault.TheVariants as fault
use Rattle.ipam_commands.proofs.Wanting.{unmade_wants}
use Rattle.ipam_commands.proofs.changing.tell_change.Goals as goal

pub returns-in-Ok-clause-changed : goal.returns-in-Ok-clause-changed
returns-in-Ok-clause-changed g c =
    (Ok c.in-Ok.found, c.in-Ok.ensures.ended, (rw (c.line.ensures, c.status.ensures.status) at c.tell.ensures.written, c.tell.ensures.told))

pub returns-in-Err-clause-changed : goal.returns-in-Err-clause-changed
returns-in-Err-clause-changed g c = (Err c.in-Err.fault, c.in-Err.ensures.ended, c.tell_fault.ensures.written)

pub returns-in-Ok-clause-want_of_memory_has_its_cause : goal.returns-in-Ok-clause-want_of_memory_has_its_cause
returns-in-Ok-clause-want_of_memory_has_its_cause g c = λ is. absurd (c.tell.ensures.told is)

pub returns-in-Err-clause-want_of_memory_has_its_cause : goal.returns-in-Err-clause-want_of_memory_has_its_cause
returns-in-Err-clause-want_of_memory_has_its_cause g c =
    λ is. unmade_wants (c.in-Err.fault ≡ fault.Memory) (g.T.MakesChange.wants c.args.change.now) (g.A.OpensKept.wants c.args.alloc) (g.A.MakesSteps.wants c.args.alloc)
    (g.A.MakesBroken.wants c.args.alloc) (λ none. c.in-Err.ensures.want_of_memory_has_its_cause (ap Err none)) (c.tell_fault.ensures.want_of_memory_has_its_cause is)
