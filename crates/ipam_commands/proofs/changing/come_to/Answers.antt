use Rattle.std.proofs.Common.{inl, inr}
use Rattle.ipam_commands.proofs.changing.come_to.Goals as goal

pub returns-in-Ok-clause-want_of_memory_has_its_cause : goal.returns-in-Ok-clause-want_of_memory_has_its_cause
returns-in-Ok-clause-want_of_memory_has_its_cause g c = λ is. inr (c.open_and_run-came.ensures.want_of_memory_has_its_cause is)

pub returns-in-Err-clause-want_of_memory_has_its_cause : goal.returns-in-Err-clause-want_of_memory_has_its_cause
returns-in-Err-clause-want_of_memory_has_its_cause g c = λ is. inl c.in-Err.ensures.wants
