-- The changes of a datastore over a list of writes, the newest first.
use Rattle.std.specs.Prelude.{◌≡◌, ℕ, ◌+◌, Bool, nat_lt, nat_le, List, [], ◌∷◌, ◌++◌, filter, reverse, slice_get, Option, Some, None, if◌then◌else◌}
use Rattle.ipam_records.specs.declared.call.Write.{Write}
use Rattle.ipam_records.specs.declared.call.Write.TheVariants.{Put, Remove}
use Rattle.ipam_records.specs.Datastore.{Datastore, written}
use Rattle.ipam_store.specs.declared.route.Route.{Route}
use Rattle.ipam_store.specs.declared.change.Change.{Change}
use Rattle.ipam_store.specs.declared.feed_kept.TheConstants.{MOST_CHANGES}
use Rattle.ipam_store.specs.Route.{routes_in}
use Rattle.ipam_store.specs.Change.{differences}

abbrev pub write_revision : Write → ℕ
write_revision (Put revision new) = revision
write_revision (Remove revision key) = revision

-- what the writes make of the datastore
abbrev pub store_after_writes : Datastore → List Write → Datastore
store_after_writes base [] = base
store_after_writes base (write ∷ earlier) = written (store_after_writes base earlier) write

-- each write takes the next revision
abbrev pub TakeNext : Datastore → List Write → Type 0
TakeNext base [] = Unit {0}
TakeNext base (write ∷ earlier) = (write_revision write ≡ (store_after_writes base earlier).counter + 1) × TakeNext base earlier

-- the routes at a revision: after the last of the writes that have this one or a lower one
abbrev pub routes_at : Datastore → List Write → (revision : ℕ) → List Route
routes_at base [] revision = routes_in base
routes_at base (write ∷ earlier) revision =
    if nat_le (write_revision write) revision then routes_in (store_after_writes base (write ∷ earlier)) else routes_at base earlier revision

-- the changes of the writes, the newest first
abbrev pub changes_of : Datastore → List Write → List Change
changes_of base [] = []
changes_of base (write ∷ earlier) =
    differences (write_revision write) (routes_in (store_after_writes base earlier)) (routes_in (written (store_after_writes base earlier) write))
    ++ changes_of base earlier

abbrev pub is_above : (revision : ℕ) → Change → Bool
is_above revision change = nat_lt revision change.revision

-- the changes with a revision above this one, the oldest first
abbrev pub changes_since : Datastore → List Write → (revision : ℕ) → List Change
changes_since base writes revision = reverse (filter (is_above revision) (changes_of base writes))

abbrev pub most_changes : ℕ
most_changes = MOST_CHANGES

abbrev pub revision_or : ℕ → Option Change → ℕ
revision_or counter None = counter
revision_or counter (Some change) = change.revision

-- the lowest revision since which the last changes, as many as are kept, are all changes: that of
-- the change before them, or the counter at the opening where no change came before them
abbrev pub floor_of : (counter : ℕ) → List Change → ℕ
floor_of counter changes = revision_or counter (slice_get changes most_changes)
