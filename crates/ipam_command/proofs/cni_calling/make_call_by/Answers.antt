use Rattle.std.proofs.Common.{Err, ap, inl, ◌∙◌}
use Rattle.ipam_command.proofs.Makings.{made_went}
use Rattle.ipam_command.proofs.cni_calling.make_call_by.Goals as goal

pub returns-in-Ok-clause-went : goal.returns-in-Ok-clause-went
returns-in-Ok-clause-went g c =
    made_went _ c.args.env.now c.call_with.result _ _ c.as_slice.result.now
    (record {
      bytes = rw c.as_slice.ensures.value c.in-Ok.ensures.bytes;
      bound = rw c.as_slice.ensures.value c.in-Ok.ensures.bound;
      whole = rw c.as_slice.ensures.value c.in-Ok.ensures.whole;
    })
    c.in-Ok.ensures.no_fault c.call_with.ensures.ends

pub returns-in-Err-Memory-clause-want_of_memory_has_its_cause : goal.returns-in-Err-Memory-clause-want_of_memory_has_its_cause
returns-in-Err-Memory-clause-want_of_memory_has_its_cause g c =
    inl (c.read_input.ensures.wants (c.in-Err-Memory.is ∙ ap Err c.in-Err-Memory.field-0-is))
