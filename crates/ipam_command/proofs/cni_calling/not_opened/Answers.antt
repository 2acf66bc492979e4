use Rattle.std.proofs.Common.{◌≡◌, ◌⊎◌, inl, inr}
use Rattle.ipam_shared.specs.declared.kept.KeptFault.TheVariants as fault
use Rattle.ipam_command.proofs.Told.{on_want}
use Rattle.ipam_command.proofs.cni_calling.not_opened.Goals as goal

pub returns-in-Memory-clause-want_of_memory_has_its_cause : goal.returns-in-Memory-clause-want_of_memory_has_its_cause
returns-in-Memory-clause-want_of_memory_has_its_cause g c = inl c.in-Memory.is

pub returns-in-Refused-clause-want_of_memory_has_its_cause : goal.returns-in-Refused-clause-want_of_memory_has_its_cause
returns-in-Refused-clause-want_of_memory_has_its_cause g c =
    on_want (g.T.MakesTexts.wants c.args.alloc) ((c.args.fault ≡ fault.Memory) ⊎ g.T.MakesTexts.wants c.args.alloc) c.bad_rows.result
    (λ w. inr w) c.bad_rows.ensures.want_of_memory_has_its_cause
