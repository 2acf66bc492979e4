use Rattle.std.proofs.Common.{◌∙◌}
use Rattle.ipam_addr.proofs.SlotLemmas.{slot_number_last, slot_number_holds, slot_number_at}
use Rattle.ipam_addr.proofs.slots.slot_number.Goals as goal

pub returns-then-contains-clause-within : goal.returns-then-contains-clause-within
returns-then-contains-clause-within c =
    let held = c.contains.ensures.exact.0 c.if-contains.true in
    let number = slot_number_at c.args.pool c.args.size c.width.result c.args.addr (record { family = c.addr.inside.family; number = c.addr.inside.number }) (record { family = c.offset.inside.family; number = c.offset.inside.number }) c.addr.view_is (c.offset.view_is ∙ c.base.ensures.value) c.width.ensures held in
    rw number (slot_number_last c.args.pool c.args.size c.args.addr c.requires held)

pub returns-then-contains-clause-slot : goal.returns-then-contains-clause-slot
returns-then-contains-clause-slot c =
    let held = c.contains.ensures.exact.0 c.if-contains.true in
    let number = slot_number_at c.args.pool c.args.size c.width.result c.args.addr (record { family = c.addr.inside.family; number = c.addr.inside.number }) (record { family = c.offset.inside.family; number = c.offset.inside.number }) c.addr.view_is (c.offset.view_is ∙ c.base.ensures.value) c.width.ensures held in
    rw number (slot_number_holds c.args.pool c.args.size c.args.addr held)
