use Rattle.std.proofs.Common.{Some, ap, sym, ◌∙◌}
use Rattle.ipam_store.proofs.Searching.{row_of-place, row_of-gap}
use Rattle.ipam_store.proofs.rows.find.Goals as goal

pub returns-in-Ok : goal.returns-in-Ok
returns-in-Ok c = ap Some c.index-rows-place.is ∙ sym (row_of-place _ c.requires _ _ _ c.in-Ok.ensures.found)

pub returns-in-Err : goal.returns-in-Err
returns-in-Err c = sym (row_of-gap _ _ _ c.in-Err.ensures.absent)
