use Rattle.std.proofs.Common.{◌≡◌, length, ap, arith}
use Rattle.ipam_block.proofs.Ordinals.{shared_count}
use Rattle.ipam_show.proofs.counting.used_in.Goals as goal

pub overflow_cast-result : goal.overflow_cast-result
overflow_cast-result c =
    let sound = c.cidr-cidr.ensures.sound in
    let all = shared_count c.args.block.now sound in
    let small = sound.small in
    let same : length c.allocations.result.now ≡ length c.args.block.now.allocations = ap length c.allocations.ensures in
    omega arith
