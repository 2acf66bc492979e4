-- For which history a cluster stands.
use Rattle.std.specs.Prelude.{◌≡◌, ◌↔◌, ℕ, ◌<◌, List, [], ◌∷◌, ◌++◌, None}
use Rattle.ipam_model.specs.declared.entry.Entry.{Entry}
use Rattle.ipam_model.specs.Cluster.{ClusterState, after}
use Rattle.ipam_model.specs.Consistent.{IsConsistent}
use Rattle.ipam_model.specs.Course.{slot_count}
use Rattle.ipam_model.specs.History.{Base, Lawful, MayCome, cluster_at, moment_of, start, store_at}

-- the base is consistent, the history is lawful, and the cluster is the one that they come to
pub record Stands (cluster : ClusterState) (base : Base) (history : List Entry) : Type 0 where
  pub consistent : IsConsistent base.store
  pub lawful : Lawful base history
  pub is_cluster : cluster ≡ cluster_at base history

-- Whatever history the one stands for, the other stands for it with this entry.
abbrev pub Adds : (old new : ClusterState) → Entry → Type 0
Adds old new added =
    (base : Base) (history : List Entry) → Stands old base history → Stands new base (added ∷ history)

-- nothing runs
abbrev pub IsIdle : ClusterState → Type 0
IsIdle cluster = (slot : ℕ) → slot < slot_count → cluster.slots slot ≡ None

-- A cluster that was opened stands for the history without an entry, and what may come next adds
-- itself to each history that a cluster stands for. Where nothing runs it stands for its own datastore
-- and number of entries without an entry, too, as if it had been opened so.
pub record StandsLaw : Type 0 where
  pub opened : (base : Base) → IsConsistent base.store → Stands (start base) base []
  pub adds : (cluster : ClusterState) (new : Entry) → MayCome cluster new → Adds cluster (after cluster new) new
  pub anew : (cluster : ClusterState) (base : Base) (history : List Entry) → Stands cluster base history → IsIdle cluster
      → IsConsistent cluster.store → Stands cluster (record { store = cluster.store; first = cluster.entries }) []

-- its entries are those of the base and of the history, and other slots than there are have nothing
pub record StandsRight (cluster : ClusterState) (base : Base) (history : List Entry) : Type 0 where
  pub entries : cluster.entries ≡ moment_of base history
  pub no_more : (slot : ℕ) → ¬ (slot < slot_count) → cluster.slots slot ≡ None

abbrev pub EntriesLaw : Type 0
EntriesLaw =
    (cluster : ClusterState) (base : Base) (history : List Entry) → Stands cluster base history
    → StandsRight cluster base history

-- ---- a history is begun anew

-- the datastore and the number of entries that there are
abbrev pub base_at : Base → List Entry → Base
base_at base history = record { store = store_at base history; first = moment_of base history }

-- Where nothing runs, what comes later is a history of the datastore and the number of entries that
-- there are, and comes to the same.
pub record BeginsAnew (base : Base) (history later : List Entry) : Type 0 where
  pub same_cluster : cluster_at base (later ++ history) ≡ cluster_at (base_at base history) later
  pub same_lawful : Lawful base (later ++ history) ↔ Lawful (base_at base history) later

abbrev pub AnewLaw : Type 0
AnewLaw =
    (base : Base) (history later : List Entry) → Lawful base history → IsIdle (cluster_at base history)
    → BeginsAnew base history later
