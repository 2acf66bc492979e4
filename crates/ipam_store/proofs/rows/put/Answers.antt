use Rattle.std.proofs.Common.{IsOk, ◌<◌, rules}
use Rattle.std.specs.Vec.{vec_len, vec_capacity}
use Rattle.ipam_store.proofs.Searching.{set-with_row, insert-with_row, row_of-gap, row_of-place}
use Rattle.ipam_store.proofs.rows.put.Goals as goal

pub returns-in-Ok-clause-rows : goal.returns-in-Ok-clause-rows
returns-in-Ok-clause-rows c =
    let found = rw (c.deref.ensures.value, c.of_record.ensures) at c.in-Ok.ensures.found in
    set-with_row _ c.requires.ascend c.args.row _ found

pub returns-in-Ok-clause-added : goal.returns-in-Ok-clause-added
returns-in-Ok-clause-added c none =
    let found = rw (c.deref.ensures.value, c.of_record.ensures) at c.in-Ok.ensures.found in
    let some = rw (row_of-place _ c.requires.ascend _ _ c.args.row found) at none in
    absurd (cc some)

pub unreachable-requires : goal.unreachable-requires
unreachable-requires c =
    let gap = rw (c.deref.ensures.value, c.of_record.ensures) at c.in-Err.ensures.absent in
    let done : IsOk c.insert.result = c.insert.ensures.succeeds (c.requires.room (row_of-gap _ _ _ gap)) in
    search rules

pub returns-else-is_err-clause-rows : goal.returns-else-is_err-clause-rows
returns-else-is_err-clause-rows c =
    let gap = rw (c.deref.ensures.value, c.of_record.ensures) at c.in-Err.ensures.absent in
    let done : IsOk c.insert.result = c.insert.ensures.succeeds (c.requires.room (row_of-gap _ _ _ gap)) in
    rw (c.insert.ensures.items, done) (insert-with_row _ c.args.row _ gap)

pub returns-else-is_err-clause-replaced : goal.returns-else-is_err-clause-replaced
returns-else-is_err-clause-replaced c some =
    let gap = rw (c.deref.ensures.value, c.of_record.ensures) at c.in-Err.ensures.absent in
    let bad = rw (row_of-gap _ _ _ gap) at some in
    absurd (cc bad)

pub returns-else-is_err-clause-capacity : goal.returns-else-is_err-clause-capacity
returns-else-is_err-clause-capacity c =
    let gap = rw (c.deref.ensures.value, c.of_record.ensures) at c.in-Err.ensures.absent in
    let room : vec_len c.args.rows.now < vec_capacity c.args.rows.now = c.requires.room (row_of-gap _ _ _ gap) in
    search rules
