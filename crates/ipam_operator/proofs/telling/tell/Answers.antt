use Rattle.std.proofs.Common.{ap, ◌∙◌, subst}
use Rattle.std.specs.Io.KnownBytes.{append_known}
use Rattle.ipam_io.specs.Streams.{AppendsPrefix}
use Rattle.ipam_operator.specs.Telling.{Cut, Whole}
use Rattle.ipam_operator.proofs.telling.tell.Goals as goal

pub returns-in-Ok-clause-written : goal.returns-in-Ok-clause-written
returns-in-Ok-clause-written g c =
    Whole (c.in-Ok.ensures.bytes ∙ ap (append_known (g.K.Sink.written c.args.sink.now)) c.as_bytes.ensures.value) c.in-Ok.ensures.no_fault

pub returns-in-Err-clause-written : goal.returns-in-Err-clause-written
returns-in-Err-clause-written g c =
    Cut (subst (AppendsPrefix (g.K.Sink.written c.args.sink.now) (g.K.Sink.written c.write.new.self)) c.as_bytes.ensures.value c.in-Err.ensures.part) c.in-Err.ensures.fault
