use Rattle.std.proofs.Common.{◌≡◌, drop}
use Rattle.ipam_model.specs.Opened.{readable}
use Rattle.ipam_opening.specs.Counts.{with_shorts}
use Rattle.ipam_opening.proofs.given.Given.with_shorts.Given as goal

abbrev pub invariant-loop-allocation : goal.invariant-loop-allocation
invariant-loop-allocation l =
    with_shorts (readable l.self.rows.now) l.block l.first (drop l.allocation-index l.block.allocations)
    ≡ with_shorts (readable l.self.rows.now) l.block l.initial.first l.block.allocations
