-- How routes change.
use Rattle.std.specs.Prelude.{◌≡◌, ℕ, Bool, true, false, not, List, [], ◌∷◌, ◌++◌, map, filter}
use Rattle.ipam_store.specs.declared.route.Route.{Route}
use Rattle.ipam_store.specs.declared.change.Change.{Change}
use Rattle.ipam_store.specs.Route.{has_route}

-- the routes that are not among the others
abbrev pub routes_beyond : List Route → List Route → List Route
routes_beyond others routes = filter (λ route. not (has_route others route)) routes

-- how the routes before and after a write differ: which are gone, and which are new
abbrev pub differences : (revision : ℕ) → (before after : List Route) → List Change
differences revision before after =
    map (λ route. record { revision = revision; route = route; up = false }) (routes_beyond after before)
    ++ map (λ route. record { revision = revision; route = route; up = true }) (routes_beyond before after)

-- the greater routes are the lesser ones and one more, which is not among them
pub record HasOneMore (route : Route) (lesser greater : List Route) : Type 0 where
  pub front : List Route
  pub back : List Route
  pub lesser_is : lesser ≡ front ++ back
  pub greater_is : greater ≡ front ++ route ∷ back
  pub new : has_route lesser route ≡ false

-- the change leads from these routes to those, which are one more or one fewer
abbrev pub Turns : (up : Bool) → Route → (before after : List Route) → Type 0
Turns true route before after = HasOneMore route before after
Turns false route before after = HasOneMore route after before

-- the changes, one after the other, lead from these routes to those
abbrev pub Leads : (before : List Route) → List Change → (after : List Route) → Type 0
Leads before [] after = before ≡ after
Leads before (change ∷ rest) after = (next : List Route) × Turns change.up change.route before next × Leads next rest after
