-- The lines that were given were played, and those to come are known where the source tells its bytes.
use Rattle.std.proofs.Common.{◌≡◌, ◌≤◌, ◌+◌, ◌-◌, ℕ, List, Some}
use Rattle.ipam_play.specs.Player.{IsStanding}
use Rattle.ipam_play.specs.Readings.{coming, readings}
use Rattle.ipam_play.specs.Script.{script_of}
use Rattle.ipam_play.proofs.Runs.{Goes, PlayedSoFar}
use Rattle.ipam_play.proofs.run.play_lines.Given as goal

abbrev pub invariant-loop-line : goal.invariant-loop-line
invariant-loop-line g l = record {
  goes : (bytes : List ℕ) → g.S.Source.left l.fn.source ≡ Some bytes
      → Goes (coming l.lines (g.S.Source.left l.source)) (script_of (readings bytes)) (g.K.Sink.written l.fn.sink) (g.K.Sink.written l.sink) l.game l.number;
  so_far : PlayedSoFar l.lines (g.S.Source.left l.fn.source) (g.S.Source.left l.source) (g.K.Sink.written l.fn.sink) (g.K.Sink.written l.sink) l.game l.number;
  standing : IsStanding l.game.player;
  few : l.number ≤ l.lines.before.bytes + 1;
  reads : g.S.Source.read_faults l.source ≡ g.S.Source.read_faults l.fn.source;
  read_rest : g.S.Source.read_rest l.source ≡ g.S.Source.read_rest l.fn.source;
  writes : g.K.Sink.write_faults l.sink ≡ g.K.Sink.write_faults l.fn.sink;
  write_rest : g.K.Sink.write_rest l.sink ≡ g.K.Sink.write_rest l.fn.sink;
}

-- a script has few bytes
abbrev pub decreases-loop-line : goal.decreases-loop-line
decreases-loop-line g l = 67108866 - l.lines.before.bytes
