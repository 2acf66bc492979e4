use Rattle.std.proofs.Common.{inl, inr, refl}
use Rattle.ipam_command.proofs.cni_calling.call_with.Goals as goal

pub returns-in-Ok-clause-ends : goal.returns-in-Ok-clause-ends
returns-in-Ok-clause-ends g c = inr (c.call_in.ensures.version, c.call_in.ensures.ends)

pub returns-in-Err-clause-ends : goal.returns-in-Err-clause-ends
returns-in-Err-clause-ends g c = inl (record { is_end = refl; keeper_faults = refl; rows = refl; keeper = refl })

pub returns-in-Err-clause-want_of_memory_has_its_cause : goal.returns-in-Err-clause-want_of_memory_has_its_cause
returns-in-Err-clause-want_of_memory_has_its_cause g c = inl c.in-Err.ensures.wants
