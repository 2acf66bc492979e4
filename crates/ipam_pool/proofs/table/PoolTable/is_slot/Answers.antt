use Rattle.std.proofs.Common.{subst}
use Rattle.ipam_pool.specs.Sound.{IsPoolTable}
use Rattle.ipam_pool.proofs.SlotsLemmas.{any_slot}
use Rattle.ipam_pool.proofs.table.PoolTable.is_slot.Goals as goal

pub returns : goal.returns
returns c =
    let table = subst IsPoolTable c.self.view_is c.self.invariant in
    let both = any_slot _ _ table c.is_slot_of_any.ensures.sound in
    rw (c.is_slot_of_any.ensures.value, c.as_slice.ensures.value, c.self.view_is) both
