use Rattle.std.proofs.Common.{◌≡◌, ◌++◌, drop}
use Rattle.ipam_views.specs.HighCounts.{high_among}
use Rattle.ipam_views.proofs.high_counts.high_among.Given as goal

abbrev pub invariant-loop-entry : goal.invariant-loop-entry
invariant-loop-entry l =
    l.found.items ++ high_among l.store.store l.handle (drop l.entry-index l.counts) ≡ high_among l.store.store l.handle l.counts
