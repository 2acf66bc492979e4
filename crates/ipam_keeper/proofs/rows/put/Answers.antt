use Rattle.std.proofs.Common.{IsOk, rules}
use Rattle.ipam_keeper.specs.Rows.{row_with}
use Rattle.ipam_keeper.proofs.Searching.{set-rows_with, insert-rows_with}
use Rattle.ipam_keeper.proofs.Ascending.{Ascend-rows_with}
use Rattle.ipam_keeper.proofs.rows.put.Goals as goal

pub returns-in-Ok-clause-ok : goal.returns-in-Ok-clause-ok
returns-in-Ok-clause-ok c =
    let found = rw c.deref.ensures.value at c.in-Ok.ensures.found in
    rw c.in_ok-row.ensures (set-rows_with _ c.requires (row_with c.args.key.now c.args.revision c.args.body.now) _ found)

pub returns-in-Ok-clause-ascend : goal.returns-in-Ok-clause-ascend
returns-in-Ok-clause-ascend c =
    rw (returns-in-Ok-clause-ok c) (Ascend-rows_with _ _ c.requires)

pub returns-in_ok-insert-in-Err-clause-ok : goal.returns-in_ok-insert-in-Err-clause-ok
returns-in_ok-insert-in-Err-clause-ok c =
    let gap = rw c.deref.ensures.value at c.in-Err.ensures.absent in
    let done : IsOk c.insert.result = search rules in
    rw (c.insert.ensures.items, done, c.in_ok-row.ensures) (insert-rows_with _ (row_with c.args.key.now c.args.revision c.args.body.now) _ gap)

pub returns-in_ok-insert-in-Err-clause-ascend : goal.returns-in_ok-insert-in-Err-clause-ascend
returns-in_ok-insert-in-Err-clause-ascend c =
    rw (returns-in_ok-insert-in-Err-clause-ok c) (Ascend-rows_with _ _ c.requires)
