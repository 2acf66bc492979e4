use Rattle.std.proofs.Common.{arith}
use Rattle.ipam_command.proofs.DrawLemmas.{drawing-first, drawn-all}
use Rattle.ipam_command.proofs.gen_drawing.draw_all.Goals as goal

pub loop-begun-init : goal.loop-begun-init
loop-begun-init c = record {
  drawing = drawing-first c.args.counted.now c.args.requests c.new-draws.result.x c.new-draws.ensures c.requires;
  few = omega arith;
}

pub returns : goal.returns
returns c = drawn-all c.loop-begun.counted c.args.requests c.loop-begun.draws.x c.loop-begun.begun (omega arith) c.loop-begun.invariant.drawing
