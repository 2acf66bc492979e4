use Rattle.std.proofs.Common.{◌≡◌, take}
use Rattle.std.specs.Prelude.{count_by}
use Rattle.ipam_show.specs.Counts.{borrows}
use Rattle.ipam_show.proofs.counting.borrowed_in.Given as goal

abbrev pub invariant-loop-allocation : goal.invariant-loop-allocation
invariant-loop-allocation l = l.count ≡ count_by (borrows l.block.node) (take l.allocation-index l.block.allocations)
