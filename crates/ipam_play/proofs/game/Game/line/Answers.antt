use Rattle.std.proofs.Common.{ap, ◌+◌}
use Rattle.ipam_play.specs.Script.{events_of, steps_from}
use Rattle.ipam_play.proofs.Turning.{StepsLine, line_at, line_on, step_on}
use Rattle.ipam_play.proofs.game.Game.line.Goals as goal

pub returns-in-Turn-clause-on : goal.returns-in-Turn-clause-on
returns-in-Turn-clause-on g c = λ script first number more on.
    line_on c.turns.result script first (g.K.Sink.written c.turns.new.sink) c.turns.new.self number more
    (c.turns.ensures.turns script first number (steps_from (number + 1) script.base more)
    (line_at script first (g.K.Sink.written c.args.sink.now) c.args.self.now number c.args.line.now _ more (ap events_of c.in-Turn.is) on))

pub returns-in_default-clause-on : goal.returns-in_default-clause-on
returns-in_default-clause-on g c =
    let s : StepsLine c.step.result c.args.self.now c.step.new.self (g.K.Sink.written c.args.sink.now) (g.K.Sink.written c.step.new.sink) c.args.line.now = record { event = c.step.ensures.event; base = c.step.ensures.base; late = c.step.ensures.late } in
    step_on c.step.result (g.K.Sink.written c.args.sink.now) (g.K.Sink.written c.step.new.sink) c.args.self.now c.step.new.self c.args.line.now c.in_default.not-Turn s
