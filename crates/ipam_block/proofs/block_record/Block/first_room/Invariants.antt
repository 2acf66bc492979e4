use Rattle.std.proofs.Common.{◌≡◌, drop}
use Rattle.std.specs.Prelude.{not, find}
use Rattle.ipam_block.specs.Operations.{room, ordinal_address}
use Rattle.ipam_block.proofs.block_record.Block.first_room.Given as goal

-- the room is the first of what is left of the queue
abbrev pub invariant-loop-place : goal.invariant-loop-place
invariant-loop-place g l = find (λ o. not (g.R.Spared.reserved l.reserved (ordinal_address l.self.cidr o))) (drop l.place l.self.queue) ≡ room (g.R.Spared.reserved l.reserved) l.self
