-- For which history a kept cluster stands.
use Rattle.std.specs.Prelude.{◌≡◌, List, ◌∷◌, Option}
use Rattle.ipam_records.specs.declared.call.Row.{Row as RowText}
use Rattle.ipam_records.specs.Datastore.{Datastore}
use Rattle.ipam_model.specs.declared.entry.Entry.{Entry}
use Rattle.ipam_model.specs.History.{Base}
use Rattle.ipam_cluster.specs.Cluster.{IsUnchanged, StandsFor}
use Rattle.ipam_shared.specs.declared.kept.Kept.{Kept}
use Rattle.ipam_shared.specs.Doubt.{IsDoubt}
use Rattle.ipam_shared.specs.Rows.{AreToldKept}

-- where a cluster begins that is opened with the datastore, before any entry
abbrev pub opened : Datastore → Base
opened store = record { store = store; first = 0 }

-- the rows that a keeper tells
abbrev pub Tells : Type 0 → Type 0
Tells D = D → Option (List RowText)

-- the cluster stands for the history, the keeper has its rows but for the one in doubt, that one's
-- write failed in the history, and the feed of routes is at the datastore's counter
pub record KeptFor {D : Type 0} (tells : Tells D) (kept : Kept D) (base : Base) (history : List Entry) : Type 0 where
  pub cluster : StandsFor kept.cluster base history
  pub rows : AreToldKept (tells kept.keeper) kept.cluster.store.store kept.doubt
  pub doubt : IsDoubt kept.doubt base history
  pub counter : kept.ring.counter ≡ kept.cluster.store.store.counter

-- it is kept for some history
abbrev pub IsKept : {D : Type 0} → Tells D → Kept D → Type 0
IsKept tells kept = (base : Base) × ((history : List Entry) × KeptFor tells kept base history)

-- whatever history the one is kept for, the other is kept for it with this entry
abbrev pub KeepsWith : {D : Type 0} → Tells D → (old new : Kept D) → Entry → Type 0
KeepsWith tells old new added =
    (base : Base) (history : List Entry) → KeptFor tells old base history → KeptFor tells new base (added ∷ history)

-- the cluster is as it was, and is kept for what it was kept for
pub record Stays {D : Type 0} (tells : Tells D) (old new : Kept D) : Type 0 where
  pub cluster : IsUnchanged old.cluster new.cluster
  pub kept : (base : Base) (history : List Entry) → KeptFor tells old base history → KeptFor tells new base history

-- nothing was asked of the keeper
pub record LeavesKeeper {D : Type 0} (old new : Kept D) : Type 0 where
  pub keeper : new.keeper ≡ old.keeper
  pub doubt : new.doubt ≡ old.doubt
