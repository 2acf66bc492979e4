use Rattle.std.proofs.Common.{◌≡◌, ◌+◌, ◌≤◌, take, ◌++◌, deque_len}
use Rattle.std.specs.Prelude.{filter}
use Rattle.std.specs.VecDeque.{deque_capacity}
use Rattle.ipam_block.specs.Sound.{held_ordinals}
use Rattle.ipam_block.specs.Picked.{picks}
use Rattle.ipam_block.proofs.block_record.queue_picked.Given as goal

-- those picked so far are queued, and there is room for all that are left
abbrev pub invariant-loop-allocation : goal.invariant-loop-allocation
invariant-loop-allocation l = record {
  queued : l.queue.items ≡ l.initial.queue.items ++ held_ordinals (filter (picks l.which) (take l.allocation-index l.held));
  room : deque_len l.queue ≤ deque_len l.initial.queue + l.allocation-index;
  same : deque_capacity l.queue ≡ deque_capacity l.initial.queue;
}
