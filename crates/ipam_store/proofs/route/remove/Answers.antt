use Rattle.std.proofs.lemmas.List.Kept.{IsStrictlySortedBy-filter}
use Rattle.ipam_store.specs.Route.{route_cmp}
use Rattle.ipam_store.proofs.Routes.{route_cmp_total}
use Rattle.ipam_store.proofs.Sorted.{remove-without, same-without}
use Rattle.ipam_store.proofs.route.remove.Goals as goal

pub returns-in-Ok-clause-items : goal.returns-in-Ok-clause-items
returns-in-Ok-clause-items c =
    let found = rw c.deref.ensures.value at c.in-Ok.ensures.found in
    rw c.remove.ensures.items (remove-without route_cmp route_cmp_total c.args.route.now _ _ c.requires found)

pub returns-in-Ok-clause-ascend : goal.returns-in-Ok-clause-ascend
returns-in-Ok-clause-ascend c =
    let found = rw c.deref.ensures.value at c.in-Ok.ensures.found in
    let is = remove-without route_cmp route_cmp_total c.args.route.now _ _ c.requires found in
    rw (c.remove.ensures.items, is) (IsStrictlySortedBy-filter route_cmp _ _ c.requires)

pub returns-in_default-clause-items : goal.returns-in_default-clause-items
returns-in_default-clause-items c =
    let gap = rw c.deref.ensures.value at c.in_default.ensures.absent in
    same-without route_cmp route_cmp_total c.args.route.now _ _ gap
