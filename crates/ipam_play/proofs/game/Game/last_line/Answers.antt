use Rattle.std.proofs.Common.{subst, [], ◌+◌}
use Rattle.ipam_play.specs.Halting.{IsOnOr}
use Rattle.ipam_play.proofs.Closing.{counts_halted, counts_same}
use Rattle.ipam_play.proofs.game.Game.last_line.Goals as goal

pub returns-in-Ok-clause-written : goal.returns-in-Ok-clause-written
returns-in-Ok-clause-written g c = λ script first on.
    c.finish.ensures.written script first (c.args.number + 1)
    (subst (λ r. IsOnOr r script first (g.K.Sink.written c.line.new.sink) c.line.new.self c.args.number []) c.in-Ok.is (c.line.ensures.on script first c.args.number [] on))

pub returns-in-Err-clause-written : goal.returns-in-Err-clause-written
returns-in-Err-clause-written g c = λ script first on.
    c.halted.ensures.written script first
    (subst (λ r. IsOnOr r script first (g.K.Sink.written c.line.new.sink) c.line.new.self c.args.number []) c.in-Err.is (c.line.ensures.on script first c.args.number [] on))

pub returns-in-Ok-clause-counts : goal.returns-in-Ok-clause-counts
returns-in-Ok-clause-counts g c =
    counts_same c.finish.result (g.K.Sink.write_faults c.args.sink.now) (g.K.Sink.write_faults c.line.new.sink) (g.K.Sink.write_faults c.finish.new.sink) c.in-Ok.ensures.counts c.finish.ensures.counts

pub returns-in-Err-clause-counts : goal.returns-in-Err-clause-counts
returns-in-Err-clause-counts g c =
    counts_halted (Unit {0}) c.in-Err.halt c.halted.result (g.K.Sink.write_faults c.args.sink.now) (g.K.Sink.write_faults c.line.new.sink) (g.K.Sink.write_faults c.halted.new.sink)
    c.in-Err.ensures.counts c.halted.ensures.counts c.halted.ensures.write c.halted.ensures.write_count
