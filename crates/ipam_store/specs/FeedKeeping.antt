-- How a ring keeps its value.
use Rattle.std.specs.Prelude.{◌≡◌, ℕ, ◌≤◌, ◌<◌, All, List, length, Some}
use Rattle.std.specs.List.Sorted.{IsStrictlySortedBy}
use Rattle.std.specs.Vec.{vec_len, vec_capacity}
use Rattle.std.specs.VecDeque.{deque_capacity}
use Rattle.ipam_store.specs.declared.change.Change.{Change}
use Rattle.ipam_store.specs.declared.ring.Ring.TheInside.{Inside}
use Rattle.ipam_store.specs.Route.{route_cmp}
use Rattle.ipam_store.specs.Feed.{most_changes}
use Rattle.ipam_store.specs.FeedShape.{RingValue}

abbrev pub ring_in : Inside → RingValue
ring_in a = record {
  routes = a.routes.items;
  changes = a.changes.items;
  floor = a.floor;
  counter = a.counter;
  ready = a.ready;
}

-- no more changes are kept than may be, none is of a later write, and the floor is none either
pub record AreKept (changes : List Change) (lowest counter : ℕ) : Type 0 where
  pub few : length changes ≤ most_changes
  pub past : All (λ (change : Change). change.revision ≤ counter) changes
  pub floor : lowest ≤ counter

pub record IsKept (a : Inside) : Type 0 where
  pub ascend : IsStrictlySortedBy route_cmp a.routes.items
  pub kept : AreKept a.changes.items a.floor a.counter
  pub room : most_changes ≤ deque_capacity a.changes
  -- a route that is to come takes no memory
  pub roomy : (next : Change) → a.ready ≡ Some (Some next) → vec_len a.routes < vec_capacity a.routes

abbrev pub is_kept_in : Inside → Type 0
is_kept_in a = IsKept a
