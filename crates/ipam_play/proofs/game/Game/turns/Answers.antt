use Rattle.std.proofs.Common.{◌≡◌, [], ◌∙◌, ◌+◌, ◌-◌, ◌<◌, subst, sym, refl, arith}
use Rattle.std.specs.Prelude.{Err, replicate}
use Rattle.ipam_play.specs.Halting.{IsAtOr}
use Rattle.ipam_play.specs.Outcome.{line_then}
use Rattle.ipam_model.specs.declared.entry.Fate.TheVariants.{Well}
use Rattle.ipam_model.specs.Course.{Turn}
use Rattle.ipam_play.proofs.Turning.{all_turned, has_turned, next_turn, none_turned}
use Rattle.ipam_play.proofs.game.Game.turns.Goals as goal

pub loop-done-init : goal.loop-done-init
loop-done-init g c = record {
  turned = λ script first number rest at. none_turned script first (g.K.Sink.written c.args.sink.now) c.args.self.now number c.args.slot c.args.count rest at;
  standing = c.requires.standing;
  few = λ some. absurd (omega arith);
  faults = refl;
  rest = refl;
}

pub loop-done-preserved : goal.loop-done-preserved
loop-done-preserved g c = record {
  turned = λ script first number rest at.
      has_turned script first (g.K.Sink.written c.turn.new.sink) c.turn.new.self number c.args.slot c.args.count c.loop-done.done rest
      (c.in_ok-turn.ensures.turn script first number (replicate (c.args.count - (c.loop-done.done + 1)) (Turn c.args.slot Well)) rest
      (next_turn script first (g.K.Sink.written c.loop-done.sink) c.loop-done.self number c.args.slot c.args.count c.loop-done.done rest c.loop-done-test.true
      (c.loop-done.invariant.turned script first number rest at)));
  standing = c.turn.ensures.standing;
  few = λ some. c.in_ok-turn.ensures.few;
  faults = c.in_ok-turn.ensures.counts ∙ c.loop-done.invariant.faults;
  rest = c.turn.ensures.rest ∙ c.loop-done.invariant.rest;
}

pub returns-clause-turns : goal.returns-clause-turns
returns-clause-turns g c = λ script first number rest at.
    let some : 0 < c.loop-done.done = omega arith in
    let none : c.args.count - c.loop-done.done ≡ 0 = omega arith in
    all_turned script first (g.K.Sink.written c.loop-done.sink) c.loop-done.self number c.args.slot c.args.count c.loop-done.done rest some none
    (c.loop-done.invariant.turned script first number rest at)

pub returns-in_err-turn-clause-turns : goal.returns-in_err-turn-clause-turns
returns-in_err-turn-clause-turns g c = λ script first number rest at.
    let told : c.from_residual.result ≡ Err c.in_err-turn.field-0.0 = grind arith in
    subst (λ r. IsAtOr r script first (g.K.Sink.written c.turn.new.sink) c.turn.new.self number (line_then number [] rest)) (sym told)
    (c.in_err-turn.ensures.turn script first number (replicate (c.args.count - (c.loop-done.done + 1)) (Turn c.args.slot Well)) rest
    (next_turn script first (g.K.Sink.written c.loop-done.sink) c.loop-done.self number c.args.slot c.args.count c.loop-done.done rest c.loop-done-test.true
    (c.loop-done.invariant.turned script first number rest at)))

pub returns-clause-few : goal.returns-clause-few
returns-clause-few g c =
    let some : 0 < c.loop-done.done = omega arith in
    c.loop-done.invariant.few some
