use Rattle.std.proofs.Common.{◌≡◌, ℕ, None, length}
use Rattle.ipam_cluster.specs.Busy.{busy_count}
use Rattle.ipam_cluster.specs.Slots.{slot_in}
use Rattle.ipam_cluster.proofs.slots.idle_slots.Given as goal

abbrev pub invariant-loop-slot : goal.invariant-loop-slot
invariant-loop-slot l = record {
  many : length l.slots.items ≡ l._slot;
  idle : (slot : ℕ) → slot_in l.slots.items slot ≡ None;
  free : busy_count l.slots.items ≡ 0;
}
