use Rattle.std.proofs.Common.{sym}
use Rattle.ipam_keeper.proofs.Searching.{remove-rows_without, same-rows_without}
use Rattle.ipam_keeper.proofs.Ascending.{Ascend-rows_without}
use Rattle.ipam_keeper.proofs.rows.remove.Goals as goal

pub returns-in-Ok-clause-rows : goal.returns-in-Ok-clause-rows
returns-in-Ok-clause-rows c =
    let found = rw c.deref.ensures.value at c.in-Ok.ensures.found in
    rw c.remove.ensures.items (remove-rows_without _ c.requires _ _ found)

pub returns-in-Ok-clause-ascend : goal.returns-in-Ok-clause-ascend
returns-in-Ok-clause-ascend c =
    rw (returns-in-Ok-clause-rows c) (Ascend-rows_without _ _ c.requires)

pub returns-in_default-clause-rows : goal.returns-in_default-clause-rows
returns-in_default-clause-rows c =
    let gap = rw c.deref.ensures.value at c.in_default.ensures.absent in
    sym (same-rows_without _ _ _ gap)
