use Rattle.std.proofs.Common.{◌≡◌, ◌≤◌, deque_len}
use Rattle.std.specs.VecDeque.{deque_capacity}
use Rattle.ipam_block.specs.Sound.{ordinals_below}
use Rattle.ipam_block.proofs.block_record.full_queue.Given as goal

-- the ordinals so far are queued, and the room stays
abbrev pub invariant-loop-ordinal : goal.invariant-loop-ordinal
invariant-loop-ordinal l = record {
  queued : l.queue.items ≡ ordinals_below l.ordinal;
  count : deque_len l.queue ≡ l.ordinal;
  room : l.count ≤ deque_capacity l.queue;
}
