use Rattle.std.proofs.Common.{ap, ◌∙◌}
use Rattle.ipam_addr.specs.Slots.{slot_of}
use Rattle.ipam_choice.proofs.PartLemmas.{slots_not_below, slots_not_above}
use Rattle.ipam_choice.proofs.part.part_in.Goals as goal

pub returns-clause-kept : goal.returns-clause-kept
returns-clause-kept c = λ k within has.
    let pool = c.args.pool.now in
    let slot = slot_of pool.cidr pool.size k in
    let last = c.slot-last.ensures.value ∙ ap (slot_of pool.cidr pool.size) c.last_slot.ensures in
    c.part_to.ensures.kept slot
    (c.part_from.ensures.kept slot has (slots_not_below pool.cidr pool.size k c.slot-first.result c.slot-first.ensures.value))
    (slots_not_above pool.cidr pool.size k _ c.slot-last.result within last)
