use Rattle.std.proofs.Common.{◌≡◌, ℕ, ◌||◌, take}
use Rattle.std.specs.Prelude.{All}
use Rattle.std.specs.List.{list_any}
use Rattle.ipam_addr.specs.Holding.{holds_address}
use Rattle.ipam_pool.specs.Spans.{spans_hold, IsOrdered}
use Rattle.ipam_pool.specs.Union.{address_at}
use Rattle.ipam_pool.proofs.spans.push_spans.Given as goal

-- the spans of the CIDRs so far are appended
abbrev pub invariant-loop-cidr : goal.invariant-loop-cidr
invariant-loop-cidr l = record {
  ordered : All IsOrdered l.spans.items;
  held : (n : ℕ) → spans_hold l.spans.items n ≡ (spans_hold l.initial.spans.items n || list_any (λ c. holds_address c (address_at l.family n)) (take l.cidr-index l.cidrs));
}
