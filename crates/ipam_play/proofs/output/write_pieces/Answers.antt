use Rattle.std.proofs.Common.{◌∙◌, refl}
use Rattle.ipam_play.proofs.Endings.{append-none, next_piece, on_err, piece_part}
use Rattle.ipam_play.proofs.output.write_pieces.Goals as goal

pub loop-piece-init : goal.loop-piece-init
loop-piece-init g c = record { wrote = append-none (g.K.Sink.written c.args.sink.now); faults = refl; rest = refl }

pub loop-piece-preserved : goal.loop-piece-preserved
loop-piece-preserved g c = record {
  wrote = c.in_ok-write.ensures.bytes
      ∙ next_piece (g.K.Sink.written c.args.sink.now) (g.K.Sink.written c.loop-piece.sink) c.args.pieces.now c.loop-piece.piece-index _ c.as_bytes.result.now c.loop-piece-test.true
      c.as_bytes.ensures.value c.loop-piece.invariant.wrote;
  faults = c.in_ok-write.ensures.no_fault ∙ c.loop-piece.invariant.faults;
  rest = c.write.ensures.rest ∙ c.loop-piece.invariant.rest;
}

pub returns-in_err-write-clause-part : goal.returns-in_err-write-clause-part
returns-in_err-write-clause-part g c =
    on_err c.from_residual.result
    (piece_part (g.K.Sink.written c.args.sink.now) (g.K.Sink.written c.loop-piece.sink) (g.K.Sink.written c.write.new.self) c.args.pieces.now c.loop-piece.piece-index _ c.as_bytes.result.now
    c.loop-piece-test.true c.as_bytes.ensures.value c.loop-piece.invariant.wrote c.in_err-write.ensures.part)
