use Rattle.std.proofs.Common.{◌<◌, All, List, sym, subst}
use Rattle.ipam_addr.specs.Width.{cidr_size}
use Rattle.ipam_block.specs.declared.allocation.Allocation.{Allocation}
use Rattle.ipam_parts.proofs.HeldFacts.{held_below}
use Rattle.ipam_collect.proofs.suspects.push_block.Goals as goal

pub of-requires : goal.of-requires
of-requires c =
    let P : Allocation → Type 0 = λ a. a.ordinal < cidr_size c.args.block.now.cidr in
    let Q : List Allocation → Type 0 = λ list. All P list in
    let below = subst Q (sym c.allocations-allocation-items.ensures) (held_below c.args.block.now c.cidr-cidr.ensures.sound) in
    subst P (sym c.allocation-item.is)
    (below c.loop-allocation.allocation-index c.allocation-item.result c.loop-allocation-test.true)
