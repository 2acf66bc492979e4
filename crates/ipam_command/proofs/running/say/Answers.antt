use Rattle.std.proofs.Common.{List, ℕ, ap, subst, ◌∙◌}
use Rattle.std.specs.Io.KnownBytes.{append_known}
use Rattle.ipam_io.specs.Streams.{AppendsPrefix}
use Rattle.ipam_command.specs.Commands.{Cut, Told}
use Rattle.ipam_command.proofs.running.say.Goals as goal

pub returns-in-Ok-clause-said : goal.returns-in-Ok-clause-said
returns-in-Ok-clause-said g c =
    Told (c.in-Ok.ensures.bytes ∙ ap (λ (text : List ℕ). append_known (g.K.Sink.written c.args.sink.now) text) c.as_bytes.ensures.value) c.in-Ok.ensures.no_fault

pub returns-in-Err-clause-said : goal.returns-in-Err-clause-said
returns-in-Err-clause-said g c =
    Cut (subst (λ (text : List ℕ). AppendsPrefix (g.K.Sink.written c.args.sink.now) (g.K.Sink.written c.write.new.self) text) c.as_bytes.ensures.value c.in-Err.ensures.part)
    c.in-Err.ensures.fault
