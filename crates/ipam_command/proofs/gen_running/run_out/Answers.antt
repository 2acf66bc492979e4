use Rattle.std.proofs.Common.{refl, sym, ◌∙◌}
use Rattle.ipam_command.specs.Generated.{TakesTurns}
use Rattle.ipam_command.proofs.RunOutLemmas.{led, no-turn, one-turn, plain-never-waits}
use Rattle.ipam_command.proofs.gen_running.run_out.Goals as goal

pub loop-counted-init : goal.loop-counted-init
loop-counted-init c = record { turns = no-turn c.args.counted.now c.args.slot; others = λ other not. refl }

pub unreachable-requires : goal.unreachable-requires
unreachable-requires c =
    plain-never-waits c.loop-counted.counted c.args.slot
    (led c.args.counted.now c.loop-counted.counted (TakesTurns c.args.slot) c.requires.plain c.loop-counted.invariant.turns)
    (sym c.state.ensures ∙ c.in-Waiting.is)

pub loop-counted-preserved : goal.loop-counted-preserved
loop-counted-preserved c = record {
  turns = one-turn c.args.counted.now c.loop-counted.counted c.turn.new.self c.args.slot c.in_ok-turn-in-Running.field-0 c.loop-counted.invariant.turns c.in_ok-turn-in-Running.ensures.happens;
  others = λ other not. c.turn.ensures.others other not ∙ c.loop-counted.invariant.others other not;
}
