use Rattle.std.proofs.Common.{◌≡◌, ◌≤◌, take, vec_len}
use Rattle.std.specs.Vec.{vec_capacity}
use Rattle.ipam_block.proofs.block_record.copied_allocations.Given as goal

-- the allocations so far are copied, and the room stays
abbrev pub invariant-loop-allocation : goal.invariant-loop-allocation
invariant-loop-allocation l = record {
  copied : l.copies.items ≡ take l.allocation-index l.allocations;
  count : vec_len l.copies ≡ l.allocation-index;
  room : l.count ≤ vec_capacity l.copies;
}
