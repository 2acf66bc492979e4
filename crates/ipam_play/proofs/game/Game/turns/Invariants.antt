use Rattle.std.proofs.Common.{◌≡◌, ◌<◌, ℕ, List, Option}
use Rattle.std.specs.Prelude.{replicate}
use Rattle.ipam_model.specs.declared.entry.Fate.TheVariants.{Well}
use Rattle.ipam_model.specs.Course.{Turn}
use Rattle.ipam_play.specs.Player.{IsStanding}
use Rattle.ipam_play.specs.Script.{Script}
use Rattle.ipam_play.specs.Halting.{IsAt, held_by}
use Rattle.ipam_play.specs.Writing.{AreFew}
use Rattle.ipam_play.specs.Outcome.{line_then}
use Rattle.ipam_play.proofs.Turning.{HasTurned}
use Rattle.ipam_play.proofs.game.Game.turns.Given as goal

abbrev pub invariant-loop-done : goal.invariant-loop-done
invariant-loop-done g l = record {
  turned : (script : Script) (first : Option (List ℕ)) (number : ℕ) (rest : Script) → IsAt script first (g.K.Sink.written l.fn.sink) l.fn.self (line_then number (replicate l.fn.count (Turn l.fn.slot Well)) rest)
      → HasTurned script first (g.K.Sink.written l.sink) l.self number l.fn.slot l.fn.count l.done rest;
  standing : IsStanding l.self.player;
  few : 0 < l.done → AreFew (held_by l.self);
  faults : g.K.Sink.write_faults l.sink ≡ g.K.Sink.write_faults l.fn.sink;
  rest : g.K.Sink.write_rest l.sink ≡ g.K.Sink.write_rest l.fn.sink;
}
