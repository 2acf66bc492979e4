use Rattle.std.proofs.Common.{ap, inl, inr, refl, ◌∙◌, subst}
use Rattle.std.specs.Io.KnownBytes.{append_known}
use Rattle.ipam_io.specs.Streams.{AppendsPrefix}
use Rattle.ipam_command.proofs.cni_telling.write.Goals as goal

pub returns-in-Ok-clause-written : goal.returns-in-Ok-clause-written
returns-in-Ok-clause-written g c =
    let bytes = c.in-Ok.ensures.bytes ∙ ap (append_known (g.K.Sink.written c.args.sink.now)) c.as_bytes.ensures.value in
    inl (record { bytes = bytes; no_fault = c.in-Ok.ensures.no_fault }, refl)

pub returns-in-Err-clause-written : goal.returns-in-Err-clause-written
returns-in-Err-clause-written g c =
    let bytes = subst (AppendsPrefix (g.K.Sink.written c.args.sink.now) (g.K.Sink.written c.write.new.self)) c.as_bytes.ensures.value c.in-Err.ensures.part in
    inr (record { bytes = bytes; fault = c.in-Err.ensures.fault }, refl)
