use Rattle.std.proofs.Common.{inr}
use Rattle.ipam_commands.proofs.told_apply.tell_answer.Goals as goal

pub returns-in-Fault-clause-told : goal.returns-in-Fault-clause-told
returns-in-Fault-clause-told g c = inr (inr (c.in-Fault.is, c.tell.ensures.written))

pub returns-in-Fault-clause-want_of_memory_has_its_cause : goal.returns-in-Fault-clause-want_of_memory_has_its_cause
returns-in-Fault-clause-want_of_memory_has_its_cause g c = λ is. absurd (c.tell.ensures.told (cc is))

pub returns-in_default-clause-want_of_memory_has_its_cause : goal.returns-in_default-clause-want_of_memory_has_its_cause
returns-in_default-clause-want_of_memory_has_its_cause g c = λ is. c.tell_refused.ensures.want_of_memory_has_its_cause (cc is)
