use Rattle.std.proofs.Common.{◌≡◌, take}
use Rattle.std.specs.Prelude.{count_by}
use Rattle.ipam_show.specs.Counts.{says_node}
use Rattle.ipam_show.proofs.counting.told_in.Given as goal

abbrev pub invariant-loop-allocation : goal.invariant-loop-allocation
invariant-loop-allocation l = l.count ≡ count_by says_node (take l.allocation-index l.block.allocations)
