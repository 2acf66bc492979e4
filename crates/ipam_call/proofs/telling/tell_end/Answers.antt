use Rattle.std.proofs.Common.{ap, ◌∙◌, subst}
use Rattle.std.specs.Io.KnownBytes.{append_known}
use Rattle.ipam_io.specs.Streams.{AppendsPrefix}
use Rattle.ipam_call.specs.Ends.{whole, cut}
use Rattle.ipam_call.proofs.telling.tell_end.Goals as goal

pub returns-in-Ok-clause-told : goal.returns-in-Ok-clause-told
returns-in-Ok-clause-told g c =
    rw c.in-Replied.is (whole (c.in-Ok.ensures.bytes ∙ ap (append_known (g.K.Sink.written c.args.sink.now)) c.as_bytes.ensures) c.in-Ok.ensures.no_fault)

pub returns-in-Err-clause-told : goal.returns-in-Err-clause-told
returns-in-Err-clause-told g c =
    rw c.in-Replied.is (cut (subst (AppendsPrefix (g.K.Sink.written c.args.sink.now) (g.K.Sink.written c.write.new.self)) c.as_bytes.ensures c.in-Err.ensures.part) c.in-Err.ensures.fault)
