use Rattle.ipam_opening.proofs.Slots.{slot-is}
use Rattle.ipam_opening.proofs.rows.is_slot.Goals as goal

pub returns : goal.returns
returns c = slot-is c.args.table.now c.args.cidr c.pools-pools.ensures.sound c.prefix-prefix.ensures.sound c.is_slot.result c.is_slot.ensures
