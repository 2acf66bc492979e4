-- For what a cluster stands hangs on its datastore, its entries and its slots alone.
use Rattle.std.proofs.Common.{◌≡◌, ℕ, List, Option, Some, None, refl, ap, ◌∙◌, subst, sym}
use Rattle.ipam_records.specs.Word.{waits}
use Rattle.ipam_model.specs.declared.entry.Entry.{Entry}
use Rattle.ipam_model.specs.declared.entry.SlotState.TheVariants as state
use Rattle.ipam_model.specs.Cluster as model
use Rattle.ipam_model.specs.Cluster.{state_of}
use Rattle.ipam_model.specs.History.{Base, cluster_at}
use Rattle.ipam_cluster.specs.declared.running.Running.{Running}
use Rattle.ipam_cluster.specs.declared.cluster.Cluster.{Cluster}
use Rattle.ipam_cluster.specs.Cluster.{slot_of_cluster, state_in, IsSlot, IsCluster, IsUnchanged, StandsFor, Stood}
use Rattle.std.specs.Prelude.{if◌then◌else◌}

-- ---- clusters that are the same

same_cluster : (old new : Cluster) (one : model.ClusterState) → IsUnchanged old new → IsCluster old one → IsCluster new one
same_cluster old new one same is = record {
  store = same.store ∙ is.store;
  entries = same.entries ∙ is.entries;
  slots = λ slot. subst (λ (code : Option Running). IsSlot code (one.slots slot)) (sym (same.slots slot)) (is.slots slot);
}

-- whatever the one stands for, the other stands for it
pub unchanged_stands : (old new : Cluster) → IsUnchanged old new → (base : Base) (history : List Entry) → StandsFor old base history → StandsFor new base history
unchanged_stands old new same base history h = record {
  is_cluster = same_cluster old new (cluster_at base history) same h.is_cluster;
  stands = h.stands;
}

pub unchanged_stood : (old new : Cluster) → IsUnchanged old new → Stood old → Stood new
unchanged_stood old new same (base, (history, h)) = (base, (history, unchanged_stands old new same base history h))

pub unchanged_itself : (cluster : Cluster) → IsUnchanged cluster cluster
unchanged_itself cluster = record { store = refl; entries = refl; slots = λ slot. refl }

-- ---- what there is to do in a slot

pub state_is : (code : Option Running) (one : Option model.RunningRequest) → IsSlot code one → state_in code ≡ state_of one
state_is None None is = refl
state_is None (Some one) is = absurd is
state_is (Some running) None is = absurd is
state_is (Some running) (Some one) is = ap (λ w. if waits w then state.Waiting else state.Running) is.word

pub state_there : (cluster : Cluster) (base : Base) (history : List Entry) → StandsFor cluster base history
    → (slot : ℕ) → state_in (slot_of_cluster cluster slot) ≡ state_of ((cluster_at base history).slots slot)
state_there cluster base history h slot = state_is (slot_of_cluster cluster slot) ((cluster_at base history).slots slot) (h.is_cluster.slots slot)
