use Rattle.std.proofs.Common.{◌≡◌, ◌++◌, drop}
use Rattle.ipam_store.specs.Route.{routes_of}
use Rattle.ipam_store.proofs.route.add_routes.Given as goal

abbrev pub invariant-loop-row : goal.invariant-loop-row
invariant-loop-row l = l.routes.items ++ routes_of (drop l.row-index l.rows) ≡ l.initial.routes.items ++ routes_of l.rows
