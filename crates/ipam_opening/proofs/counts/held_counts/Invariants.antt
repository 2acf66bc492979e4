use Rattle.std.proofs.Common.{◌≡◌, ℕ, List, take}
use Rattle.std.specs.List.{count_by}
use Rattle.ipam_block.specs.Operations.{is_owned}
use Rattle.ipam_opening.specs.Counts.{held_in}
use Rattle.ipam_opening.proofs.counts.held_counts.Given as goal

abbrev pub invariant-loop-allocation : goal.invariant-loop-allocation
invariant-loop-allocation l =
    (id : List ℕ) → held_in l.counts id ≡ count_by (is_owned id) (take l.allocation-index l.block.allocations)
