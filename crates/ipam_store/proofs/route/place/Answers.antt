use Rattle.std.proofs.Common.{rules}
use Rattle.std.proofs.lemmas.Fn.{always_returns_same}
use Rattle.ipam_store.specs.Route.{route_cmp}
use Rattle.ipam_store.proofs.Routes.{route_cmp_total}
use Rattle.ipam_store.proofs.Sorted.{searched}
use Rattle.ipam_store.proofs.route.place.Goals as goal

pub returns-clause-found : goal.returns-clause-found
returns-clause-found c =
    let facts = c.binary_search_by.ensures in
    let by_key = facts.position (λ other. route_cmp other c.args.route.now) (always_returns_same _ _ _ (λ a r g called. (search rules, search rules))) in
    (searched route_cmp route_cmp_total _ c.requires c.args.route.now _ facts.bound by_key).found

pub returns-clause-absent : goal.returns-clause-absent
returns-clause-absent c =
    let facts = c.binary_search_by.ensures in
    let by_key = facts.position (λ other. route_cmp other c.args.route.now) (always_returns_same _ _ _ (λ a r g called. (search rules, search rules))) in
    (searched route_cmp route_cmp_total _ c.requires c.args.route.now _ facts.bound by_key).absent
