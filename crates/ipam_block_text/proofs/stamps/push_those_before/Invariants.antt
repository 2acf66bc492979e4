use Rattle.std.proofs.Common.{◌≡◌, ◌++◌, ◌-◌, drop, length}
use Rattle.ipam_block_text.specs.Stamps.{AreBefore}
use Rattle.ipam_block_text.proofs.stamps.push_those_before.Given as goal

-- what is merged and what is left are the same, and the merged ones come before the ordinal
abbrev pub invariant-places : goal.invariant-places
invariant-places l = record {
  same : l.merged.items ++ drop l.next l.earlier ≡ l.initial.merged.items ++ drop l.place l.earlier;
  merged : AreBefore l.ordinal l.merged.items;
}

abbrev pub decreases-places : goal.decreases-places
decreases-places l = length l.earlier - l.next
