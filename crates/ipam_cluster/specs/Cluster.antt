-- For which cluster of the specification a cluster stands, and for which history.
use Rattle.std.specs.Prelude.{◌≡◌, ℕ, List, ◌∷◌, Option, Some, None, if◌then◌else◌}
use Rattle.ipam_records.specs.Word.{waits}
use Rattle.ipam_model.specs.declared.entry.Entry.{Entry}
use Rattle.ipam_model.specs.declared.entry.SlotState.{SlotState}
use Rattle.ipam_model.specs.declared.entry.SlotState.TheVariants as state
use Rattle.ipam_model.specs.Cluster as model
use Rattle.ipam_model.specs.History.{Base, cluster_at}
use Rattle.ipam_laws.specs.Right.{IsRight}
use Rattle.ipam_model.specs.Stands.{Stands}
use Rattle.ipam_collect.specs.declared.collect.Grace.{Grace}
use Rattle.ipam_cluster.specs.declared.running.Running.{Running}
use Rattle.ipam_cluster.specs.Running.{running_rest, running_grace, grace_of}
use Rattle.ipam_cluster.specs.Slots.{slot_in}
use Rattle.ipam_cluster.specs.declared.cluster.Cluster.{Cluster}

-- what runs in a slot
abbrev pub slot_of_cluster : Cluster → ℕ → Option Running
slot_of_cluster cluster slot = slot_in cluster.slots.items slot

abbrev pub state_in : Option Running → SlotState
state_in None = state.Idle
state_in (Some running) = if waits (running_rest running) then state.Waiting else state.Running

-- ---- the cluster that it stands for

-- what is left is what is left of the request, and a collection has its times
pub record Runs (running : Running) (one : model.RunningRequest) : Type 0 where
  pub word : running_rest running ≡ one.word
  pub grace : running_grace running ≡ grace_of one.request

-- the slot runs what the model's slot runs, or nothing runs in either
abbrev pub IsSlot : Option Running → Option model.RunningRequest → Type 0
IsSlot None None = Unit {0}
IsSlot None (Some one) = ⊥
IsSlot (Some running) None = ⊥
IsSlot (Some running) (Some one) = Runs running one

pub record IsCluster (cluster : Cluster) (one : model.ClusterState) : Type 0 where
  pub store : cluster.store.store ≡ one.store
  pub entries : cluster.entries ≡ one.entries
  pub slots : (slot : ℕ) → IsSlot (slot_of_cluster cluster slot) (one.slots slot)

-- the base is consistent, the history is lawful, and the cluster is what they come to
pub record StandsFor (cluster : Cluster) (base : Base) (history : List Entry) : Type 0 where
  pub is_cluster : IsCluster cluster (cluster_at base history)
  pub stands : Stands (cluster_at base history) base history

-- it stands for some history
abbrev pub Stood : Cluster → Type 0
Stood cluster = (base : Base) × ((history : List Entry) × StandsFor cluster base history)

-- whatever history the one stands for, the other stands for it with this entry
abbrev pub AddsTo : (old new : Cluster) → Entry → Type 0
AddsTo old new added =
    (base : Base) (history : List Entry) → StandsFor old base history → StandsFor new base (added ∷ history)

-- whatever history it stands for, that history with this entry is right
unfoldable pub StaysRight : Cluster → Entry → Type 0
StaysRight cluster added =
    (base : Base) (history : List Entry) → StandsFor cluster base history → IsRight base (added ∷ history)

-- the datastore, the entries and what runs in each slot are the same
pub record IsUnchanged (old new : Cluster) : Type 0 where
  pub store : new.store.store ≡ old.store.store
  pub entries : new.entries ≡ old.entries
  pub slots : (slot : ℕ) → slot_of_cluster new slot ≡ slot_of_cluster old slot

-- when the collection's second list that waits in a slot is too early
abbrev pub grace_in : Option Running → Option Grace
grace_in None = None
grace_in (Some running) = running_grace running

-- a collection waits in the slot, with these times
abbrev pub WaitsWith : Option Running → Grace → Type 0
WaitsWith held grace = (state_in held ≡ state.Waiting) × (grace_in held ≡ Some grace)
