use Rattle.std.proofs.Common.{arith}
use Rattle.ipam_block.proofs.Ordinals.{ordinals_below-more}
use Rattle.ipam_block.proofs.block_record.full_queue.Goals as goal

pub loop-ordinal-preserved : goal.loop-ordinal-preserved
loop-ordinal-preserved c =
    let more = ordinals_below-more c.loop-ordinal.ordinal in
    record { queued = cc; count = omega arith; room = omega arith }
