use Rattle.std.proofs.Common.{◌∙◌, arith}
use Rattle.ipam_block.proofs.Ordinals.{ordinal_fits}
use Rattle.ipam_block.proofs.block_record.address_at.Goals as goal

pub overflow_add-result : goal.overflow_add-result
overflow_add-result c =
    let fits = ordinal_fits _ _ _ c.base-base.ensures.sound (c.base.view_is ∙ c.base-base.ensures.value) c.requires in
    omega arith

pub invariant_of-result : goal.invariant_of-result
invariant_of-result c =
    let fits = ordinal_fits _ _ _ c.base-base.ensures.sound (c.base.view_is ∙ c.base-base.ensures.value) c.requires in
    omega arith
