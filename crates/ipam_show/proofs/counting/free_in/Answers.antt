use Rattle.std.proofs.Common.{◌≡◌, length, ap, arith}
use Rattle.std.specs.Prelude.{not}
use Rattle.ipam_block.proofs.Ordinals.{queued-below, shared_count}
use Rattle.ipam_block.specs.Operations.{ordinal_address}
use Rattle.ipam_pool.specs.Spans.{is_reserved_by}
use Rattle.ipam_show.proofs.Counted.{count_few}
use Rattle.ipam_show.proofs.counting.free_in.Goals as goal

pub address-requires : goal.address-requires
address-requires c =
    let same : length c.queue-queue.result.now.items ≡ length c.args.block.now.queue = ap length c.queue-queue.ensures in
    let below = c.loop-place-test.true in
    let end = c.len-place-end.ensures in
    queued-below c.args.block.now c.loop-place.place c.index.result.now c.cidr-cidr.ensures.sound (omega arith) (rw c.queue-queue.ensures at c.index.ensures)

pub overflow_add-count : goal.overflow_add-count
overflow_add-count c =
    let l = c.loop-place in
    let b = c.args.block.now in
    let sound = c.cidr-cidr.ensures.sound in
    let all = shared_count b sound in
    let small = sound.small in
    let same : length c.queue-queue.result.now.items ≡ length b.queue = ap length c.queue-queue.ensures in
    let below = c.loop-place-test.true in
    let end = c.len-place-end.ensures in
    let few = count_few (λ o. not (is_reserved_by c.args.reserved.now (ordinal_address b.cidr o))) b.queue l.place l.count l.invariant in
    omega arith
