-- How the ring finds a write's change.
use Rattle.std.specs.Prelude.{◌≡◌, ◌+◌, Bool, true, false, not, List, filter, Option, Some, None, if◌then◌else◌}
use Rattle.std.specs.BTreeSet.{insert_key}
use Rattle.std.specs.Ordering.{is_eq}
use Rattle.ipam_records.specs.declared.key.Key.TheVariants as key
use Rattle.ipam_records.specs.declared.record.Record.TheVariants as record_of
use Rattle.ipam_records.specs.declared.call.Write.{Write}
use Rattle.ipam_records.specs.declared.call.Write.TheVariants.{Put, Remove}
use Rattle.ipam_store.specs.declared.route.Route.{Route}
use Rattle.ipam_store.specs.declared.change.Change.{Change}
use Rattle.ipam_store.specs.Route.{is_confirmed, route_cmp, has_route}
use Rattle.ipam_store.specs.Feed.{write_revision}
use Rattle.ipam_store.specs.FeedShape.{RingValue}

-- the change that a write makes of an affinity, unless the routes are so already
abbrev pub change_meant : Write → Option Change
change_meant (Put revision (record_of.Affinity a)) =
    Some (record { revision = revision; route = record { node = a.node; cidr = a.cidr }; up = is_confirmed a.state })
change_meant (Remove revision (key.Affinity node cidr)) =
    Some (record { revision = revision; route = record { node = node; cidr = cidr }; up = false })
change_meant _ = None

-- whether the route is to come and is not there, or is to go and is there
abbrev pub is_change : List Route → Change → Bool
is_change routes change = if change.up then not (has_route routes change.route) else has_route routes change.route

abbrev pub if_change : List Route → Option Change → Option Change
if_change routes None = None
if_change routes (Some change) = if is_change routes change then Some change else None

-- the change that a write makes of these routes
abbrev pub change_of : List Route → Write → Option Change
change_of routes write = if_change routes (change_meant write)

-- the routes with this one at its place, and without it
abbrev pub with_route : Route → List Route → List Route
with_route route routes = insert_key route_cmp routes route

abbrev pub without_route : Route → List Route → List Route
without_route route = filter (λ other. not (is_eq (route_cmp other route)))

abbrev pub turned : (up : Bool) → Route → List Route → List Route
turned true = with_route
turned false = without_route

-- the ring knows the change of this write, which takes the next revision
pub record IsPreparedFor (ring : RingValue) (write : Write) : Type 0 where
  pub next : write_revision write ≡ ring.counter + 1
  pub ready : ring.ready ≡ Some (change_of ring.routes write)

-- the routes once the change was made, if there is one
abbrev pub turned_by : Option Change → List Route → List Route
turned_by None routes = routes
turned_by (Some change) routes = turned change.up change.route routes
