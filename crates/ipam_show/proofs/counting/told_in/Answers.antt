use Rattle.std.proofs.Common.{◌≡◌, length, ap, arith}
use Rattle.ipam_block.proofs.Ordinals.{shared_count}
use Rattle.ipam_show.specs.Counts.{says_node}
use Rattle.ipam_show.proofs.Counted.{count_few}
use Rattle.ipam_show.proofs.counting.told_in.Goals as goal

pub overflow_add-count : goal.overflow_add-count
overflow_add-count c =
    let l = c.loop-allocation in
    let xs = c.args.block.now.allocations in
    let sound = c.cidr-cidr.ensures.sound in
    let all = shared_count c.args.block.now sound in
    let small = sound.small in
    let same : length c.allocations-allocation-items.result.now ≡ length xs = ap length c.allocations-allocation-items.ensures in
    let below = c.loop-allocation-test.true in
    let few = count_few says_node xs l.allocation-index l.count l.invariant in
    omega arith
