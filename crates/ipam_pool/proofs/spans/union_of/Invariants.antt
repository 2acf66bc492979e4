use Rattle.std.proofs.Common.{◌≡◌, ℕ, take}
use Rattle.std.specs.Prelude.{All}
use Rattle.ipam_pool.specs.Spans.{spans_hold, IsOrdered}
use Rattle.ipam_pool.specs.Union.{address_at, is_in_union}
use Rattle.ipam_pool.proofs.spans.union_of.Given as goal

-- the spans of the reservations so far
abbrev pub invariant-loop-reservation : goal.invariant-loop-reservation
invariant-loop-reservation l = record {
  ordered : All IsOrdered l.spans.items;
  held : (n : ℕ) → spans_hold l.spans.items n ≡ is_in_union (take l.reservation-index l.list) (address_at l.family n);
}
