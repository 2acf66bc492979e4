use Rattle.std.proofs.Common.{◌≡◌, ◌≤◌, take, deque_len}
use Rattle.std.specs.VecDeque.{deque_capacity}
use Rattle.ipam_block.proofs.block_record.with_room.Given as goal

-- the ordinals so far are queued, and the room stays
abbrev pub invariant-loop-ordinal : goal.invariant-loop-ordinal
invariant-loop-ordinal l = record {
  queued : l.queued.items ≡ take l.ordinal-index l.queue;
  count : deque_len l.queued ≡ l.ordinal-index;
  room : l.count ≤ deque_capacity l.queued;
}
