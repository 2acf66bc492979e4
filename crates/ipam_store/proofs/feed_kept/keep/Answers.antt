use Rattle.std.proofs.Common.{◌≤◌, length, arith, length-take}
use Rattle.ipam_store.proofs.feed_kept.keep.Goals as goal

pub push_front_reserved-requires : goal.push_front_reserved-requires
push_front_reserved-requires c =
    let few : length c.take_excess-oldest.new.changes.items ≤ 1023 = rw c.take_excess-oldest.ensures.changes (simp length-take (omega arith)) in
    let items = c.take_excess-oldest.new.changes.ok.0 in
    let room = c.requires.room in
    omega (arith, c.take_excess-oldest.ensures.capacity)
