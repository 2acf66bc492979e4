use Rattle.std.proofs.Common.{Err, ap, inl, refl, ◌∙◌}
use Rattle.ipam_commands.specs.Applied.{Read, ReadFailed}
use Rattle.ipam_commands.proofs.AnySource.{document-any}
use Rattle.ipam_commands.proofs.Endings.{done-whole}
use Rattle.ipam_commands.proofs.document.apply_by.Goals as goal

pub returns-in-Ok-clause-applied : goal.returns-in-Ok-clause-applied
returns-in-Ok-clause-applied g c =
    Read c.in-Ok.document.items (record { bytes = c.in-Ok.ensures.bytes; whole = c.in-Ok.ensures.whole; bound = c.in-Ok.ensures.bound }) c.in-Ok.ensures.no_fault
    (document-any _ c.in-Ok.document.items _ _ _ _ _ _ _ _ _ _ _ _ c.apply_document.result (rw c.as_slice.ensures.value at c.apply_document.ensures.ended))

pub returns-in-Ok-clause-whole : goal.returns-in-Ok-clause-whole
returns-in-Ok-clause-whole g c =
    λ done. done-whole _ c.in-Ok.document.items _ _ c.apply_document.result _ _
    (rw c.as_slice.ensures.value at c.apply_document.ensures.ended)
    (record { bytes = c.in-Ok.ensures.bytes; whole = c.in-Ok.ensures.whole; bound = c.in-Ok.ensures.bound }) done

pub returns-in-Err-Read-clause-applied : goal.returns-in-Err-Read-clause-applied
returns-in-Err-Read-clause-applied g c =
    ReadFailed (rw c.in-Err-Read.field-0-is at c.in-Err-Read.ensures.fault) refl c.tell.ensures.written

pub returns-in-Err-Read-clause-want_of_memory_has_its_cause : goal.returns-in-Err-Read-clause-want_of_memory_has_its_cause
returns-in-Err-Read-clause-want_of_memory_has_its_cause g c = λ is. absurd (c.tell.ensures.told is)

pub returns-in-Err-Memory-clause-want_of_memory_has_its_cause : goal.returns-in-Err-Memory-clause-want_of_memory_has_its_cause
returns-in-Err-Memory-clause-want_of_memory_has_its_cause g c = λ is. inl (c.read_whole.ensures.wants (c.in-Err-Memory.is ∙ ap Err c.in-Err-Memory.field-0-is))
