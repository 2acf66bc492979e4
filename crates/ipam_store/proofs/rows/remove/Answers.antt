use Rattle.std.proofs.Common.{sym}
use Rattle.ipam_store.proofs.Searching.{remove-without_row, same-without_row}
use Rattle.ipam_store.proofs.rows.remove.Goals as goal

pub returns-in-Ok-clause-rows : goal.returns-in-Ok-clause-rows
returns-in-Ok-clause-rows c =
    let found = rw c.deref.ensures.value at c.in-Ok.ensures.found in
    rw c.remove.ensures.items (remove-without_row _ c.requires _ _ found)

pub returns-in_default-clause-rows : goal.returns-in_default-clause-rows
returns-in_default-clause-rows c =
    let gap = rw c.deref.ensures.value at c.in_default.ensures.absent in
    sym (same-without_row _ _ _ gap)
