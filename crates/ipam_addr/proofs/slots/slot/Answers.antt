use Rattle.std.proofs.Common.{◌∙◌, arith}
use Rattle.ipam_addr.proofs.SlotLemmas.{slot_within, slots_apart, slot_sound, slot_first}
use Rattle.ipam_addr.proofs.slots.slot.Goals as goal

pub overflow_add-first : goal.overflow_add-first
overflow_add-first c =
    let first = slot_first c.args.pool c.args.size c.args.k c.base.inside.family c.base.inside.number c.width.result c.base-base.ensures.sound c.requires.size c.requires.number (c.base.view_is ∙ c.base-base.ensures.value) c.width.ensures in
    omega (arith, first.0)

pub invariant_of-first : goal.invariant_of-first
invariant_of-first c =
    let first = slot_first c.args.pool c.args.size c.args.k c.base.inside.family c.base.inside.number c.width.result c.base-base.ensures.sound c.requires.size c.requires.number (c.base.view_is ∙ c.base-base.ensures.value) c.width.ensures in
    first.1

pub new-requires : goal.new-requires
new-requires c =
    let first = slot_first c.args.pool c.args.size c.args.k c.base.inside.family c.base.inside.number c.width.result c.base-base.ensures.sound c.requires.size c.requires.number (c.base.view_is ∙ c.base-base.ensures.value) c.width.ensures in
    rw first.2 (slot_sound c.args.pool c.args.size c.args.k c.base-base.ensures.sound c.requires.size c.requires.number)

pub returns-clause-value : goal.returns-clause-value
returns-clause-value c =
    let first = slot_first c.args.pool c.args.size c.args.k c.base.inside.family c.base.inside.number c.width.result c.base-base.ensures.sound c.requires.size c.requires.number (c.base.view_is ∙ c.base-base.ensures.value) c.width.ensures in
    c.new.ensures ∙ first.2

pub returns-clause-within : goal.returns-clause-within
returns-clause-within c =
    let first = slot_first c.args.pool c.args.size c.args.k c.base.inside.family c.base.inside.number c.width.result c.base-base.ensures.sound c.requires.size c.requires.number (c.base.view_is ∙ c.base-base.ensures.value) c.width.ensures in
    rw (c.new.ensures, first.2) (slot_within c.args.pool c.args.size c.args.k c.requires.size c.requires.number)

pub returns-clause-apart : goal.returns-clause-apart
returns-clause-apart c = slots_apart c.args.pool c.args.size c.args.k
