use Rattle.std.proofs.Common.{◌≡◌, take}
use Rattle.std.specs.Io.KnownBytes.{append_known}
use Rattle.ipam_play.specs.Writing.{joined}
use Rattle.ipam_play.proofs.output.write_pieces.Given as goal

abbrev pub invariant-loop-piece : goal.invariant-loop-piece
invariant-loop-piece g l = record {
  wrote : g.K.Sink.written l.sink ≡ append_known (g.K.Sink.written l.fn.sink) (joined (take l.piece-index l.pieces));
  faults : g.K.Sink.write_faults l.sink ≡ g.K.Sink.write_faults l.fn.sink;
  rest : g.K.Sink.write_rest l.sink ≡ g.K.Sink.write_rest l.fn.sink;
}
