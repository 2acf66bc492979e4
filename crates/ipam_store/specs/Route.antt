-- The routes of a datastore.
use Rattle.std.specs.Prelude.{ℕ, Bool, true, false, List, Option, Some, None, if◌then◌else◌}
use Rattle.std.specs.declared.cmp.Ordering.{Ordering}
use Rattle.std.specs.Ordering.{nat_cmp, ordering_then, is_eq}
use Rattle.std.specs.Cmp.Lexicographic.{slice_cmp}
use Rattle.std.specs.List.{filter_map, list_any}
pub use Rattle.ipam_block.specs.State.{is_confirmed}
use Rattle.ipam_block.specs.Order.{cidr_cmp}
use Rattle.ipam_records.specs.declared.record.Record.{Record}
use Rattle.ipam_records.specs.declared.record.Record.TheVariants as record_of
use Rattle.ipam_records.specs.Datastore.{Datastore}
use Rattle.ipam_store.specs.declared.route.Route.{Route}

-- the route of a record: a confirmed affinity's node and block
abbrev pub route_of : Record → Option Route
route_of (record_of.Affinity a) = if is_confirmed a.state then Some (record { node = a.node; cidr = a.cidr }) else None
route_of _ = None

-- the routes of rows, in their order
abbrev pub routes_of : List (ℕ × Record) → List Route
routes_of = filter_map (λ row. route_of row.1)

-- the routes of a datastore
abbrev pub routes_in : Datastore → List Route
routes_in store = routes_of store.rows

-- by node, then by the block's family, base and prefix
abbrev pub route_cmp : Route → Route → Ordering
route_cmp r s = ordering_then (slice_cmp nat_cmp r.node s.node) (cidr_cmp r.cidr s.cidr)

-- whether the route is one of these
abbrev pub has_route : List Route → Route → Bool
has_route routes route = list_any (λ other. is_eq (route_cmp other route)) routes
