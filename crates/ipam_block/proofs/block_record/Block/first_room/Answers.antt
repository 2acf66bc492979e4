use Rattle.std.proofs.Common.{arith}
use Rattle.ipam_block.proofs.Ordinals.{queued-below}
use Rattle.ipam_block.proofs.block_record.Block.first_room.Goals as goal

pub address_at-requires : goal.address_at-requires
address_at-requires g c =
    queued-below _ c.loop-place.place _ c.self.invariant.2 (omega arith) c.index-ordinal.ensures
