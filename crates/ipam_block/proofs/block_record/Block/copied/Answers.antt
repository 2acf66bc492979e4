use Rattle.std.proofs.Common.{arith}
use Rattle.ipam_block.proofs.Ordinals.{shared_count}
use Rattle.ipam_block.proofs.block_record.Block.copied.Goals as goal

pub copied_allocations-requires : goal.copied_allocations-requires
copied_allocations-requires c =
    let count = shared_count _ c.self.invariant.2 in
    omega (arith, count)

pub copied_queue-requires : goal.copied_queue-requires
copied_queue-requires c =
    let count = shared_count _ c.self.invariant.2 in
    omega (arith, count)
