use Rattle.std.proofs.Common.{ap, ◌∙◌, subst}
use Rattle.std.specs.Io.KnownBytes.{append_known}
use Rattle.cni_types.specs.Texts.{error_text}
use Rattle.ipam_io.specs.Streams.{AppendsPrefix}
use Rattle.ipam_call.specs.declared.fixed.FixedError.{FixedError}
use Rattle.ipam_call.specs.Fixed.{fixed_error}
use Rattle.ipam_call.specs.Ends.{whole, cut}
use Rattle.ipam_call.proofs.telling.tell_fault.Goals as goal

pub returns-in-Ok-clause-told : goal.returns-in-Ok-clause-told
returns-in-Ok-clause-told g c =
    let written = c.as_bytes.ensures.value ∙ c.fixed_text-text.ensures ∙ ap (λ (e : FixedError). error_text (fixed_error c.args.version e)) c.fixed_of.ensures in
    whole (c.in-Ok.ensures.bytes ∙ ap (append_known (g.K.Sink.written c.args.sink.now)) written) c.in-Ok.ensures.no_fault

pub returns-in-Err-clause-told : goal.returns-in-Err-clause-told
returns-in-Err-clause-told g c =
    let written = c.as_bytes.ensures.value ∙ c.fixed_text-text.ensures ∙ ap (λ (e : FixedError). error_text (fixed_error c.args.version e)) c.fixed_of.ensures in
    cut (subst (AppendsPrefix (g.K.Sink.written c.args.sink.now) (g.K.Sink.written c.write.new.self)) written c.in-Err.ensures.part) c.in-Err.ensures.fault
