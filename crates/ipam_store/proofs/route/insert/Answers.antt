use Rattle.std.proofs.Common.{IsOk}
use Rattle.ipam_store.specs.Route.{route_cmp}
use Rattle.ipam_store.proofs.Routes.{route_cmp_total}
use Rattle.ipam_store.proofs.Sorted.{insert-with, same-with, ascends-with}
use Rattle.ipam_store.proofs.route.insert.Goals as goal

pub returns-else-is_err-clause-items : goal.returns-else-is_err-clause-items
returns-else-is_err-clause-items c =
    let gap = rw c.deref.ensures.value at c.in-Err.ensures.absent in
    let done : IsOk c.insert.result = c.insert.ensures.succeeds c.requires.room in
    rw (c.insert.ensures.items, done) (insert-with route_cmp route_cmp_total c.args.route _ _ gap)

pub returns-else-is_err-clause-ascend : goal.returns-else-is_err-clause-ascend
returns-else-is_err-clause-ascend c =
    let gap = rw c.deref.ensures.value at c.in-Err.ensures.absent in
    let done : IsOk c.insert.result = c.insert.ensures.succeeds c.requires.room in
    rw (c.insert.ensures.items, done, insert-with route_cmp route_cmp_total c.args.route _ _ gap) (ascends-with route_cmp route_cmp_total c.args.route _ c.requires.ascend)

pub returns-in_default-clause-items : goal.returns-in_default-clause-items
returns-in_default-clause-items c =
    let found = rw c.deref.ensures.value at c.in_default.ensures.found in
    same-with route_cmp route_cmp_total c.args.route _ _ c.requires.ascend found
