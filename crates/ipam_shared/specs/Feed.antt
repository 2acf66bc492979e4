-- What the feed of routes of a kept cluster follows, and what it answers.
use Rattle.std.specs.Prelude.{◌≡◌, ℕ, ◌<◌, List, [], ◌∷◌, Option, Some, None}
use Rattle.ipam_records.specs.declared.call.Write.{Write}
use Rattle.ipam_store.specs.declared.route.Route.{Route}
use Rattle.ipam_store.specs.declared.change.Change.{Change}
use Rattle.ipam_store.specs.Route.{routes_in}
use Rattle.ipam_store.specs.Change.{Leads}
use Rattle.ipam_store.specs.Feed.{changes_of, changes_since, floor_of, routes_at, write_revision}
use Rattle.ipam_store.specs.Follows.{Follows}
use Rattle.ipam_model.specs.declared.entry.Entry.{Entry}
use Rattle.ipam_model.specs.declared.entry.Entry.TheVariants as entry
use Rattle.ipam_model.specs.Cluster.{write_told}
use Rattle.ipam_model.specs.History.{Base, store_at}
use Rattle.ipam_shared.specs.declared.kept.Kept.{Kept}
use Rattle.ipam_shared.specs.Kept.{KeptFor, Tells}

-- ---- the writes of a history

abbrev pub with_write : Option Write → List Write → List Write
with_write None writes = writes
with_write (Some write) writes = write ∷ writes

-- the counter once it is done
abbrev pub counter_with : Option Write → ℕ → ℕ
counter_with None counter = counter
counter_with (Some write) counter = write_revision write

-- the writes of the calls that were done, the newest first
abbrev pub writes_in : List Entry → List Write
writes_in [] = []
writes_in (entry.Began slot request ∷ history) = writes_in history
writes_in (entry.Fed slot at live ∷ history) = writes_in history
writes_in (entry.Called c ∷ history) = with_write (write_told c.call c.reply c.written) (writes_in history)
writes_in (entry.Stopped slot ∷ history) = writes_in history

-- ---- what the feed follows

-- the cluster is kept for the history, and its feed was opened with the base and took the writes since
pub record FedFor {D : Type 0} (tells : Tells D) (kept : Kept D) (base : Base) (history : List Entry) : Type 0 where
  pub kept_for : KeptFor tells kept base history
  pub follows : Follows kept.ring base.store (writes_in history)

-- whatever history the one is fed for, the other is fed for it with this entry
abbrev pub FedWith : {D : Type 0} → Tells D → (old new : Kept D) → Entry → Type 0
FedWith tells old new added =
    (base : Base) (history : List Entry) → FedFor tells old base history → FedFor tells new base (added ∷ history)

-- the other is fed for what the one is fed for
abbrev pub StaysFed : {D : Type 0} → Tells D → (old new : Kept D) → Type 0
StaysFed tells old new = (base : Base) (history : List Entry) → FedFor tells old base history → FedFor tells new base history

-- ---- what it answers at the end of a history

-- the datastore's counter and its routes
pub record AreRoutes (base : Base) (history : List Entry) (counter : ℕ) (routes : List Route) : Type 0 where
  pub is_counter : counter ≡ (store_at base history).counter
  pub are_routes : routes ≡ routes_in (store_at base history)

-- the routes when the counter was this
abbrev pub routes_then : Base → List Entry → (revision : ℕ) → List Route
routes_then base history revision = routes_at base.store (writes_in history) revision

-- The datastore's counter, and the changes with a later revision, in the order in which they came. With
-- them the routes then become the routes now.
pub record AreChanges (base : Base) (history : List Entry) (revision counter : ℕ) (changes : List Change) : Type 0 where
  pub is_counter : counter ≡ (store_at base history).counter
  pub exact : changes ≡ changes_since base.store (writes_in history) revision
  pub lead : Leads (routes_then base history revision) changes (routes_in (store_at base history))

-- the lowest revision since which the changes are kept: that of the last change that is not kept any
-- more, or the counter of the base
abbrev pub floor_in : Base → List Entry → ℕ
floor_in base history = floor_of base.store.counter (changes_of base.store (writes_in history))

-- not all changes since the revision are kept, but those since the floor
abbrev pub IsCompacted : Base → List Entry → (revision floor : ℕ) → Type 0
IsCompacted base history revision floor = (revision < floor_in base history) × (floor ≡ floor_in base history)

-- no write has the revision yet
abbrev pub IsAhead : Base → List Entry → (revision counter : ℕ) → Type 0
IsAhead base history revision counter = ((store_at base history).counter < revision) × (counter ≡ (store_at base history).counter)
