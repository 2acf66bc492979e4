-- What runs in a slot, by the specification and in the cluster.
use Rattle.std.proofs.Common.{◌≡◌, ◌≢◌, ◌↔◌, ℕ, List, [], ◌∷◌, ◌++◌, Option, Some, None, IsSome, refl, ap, ◌∙◌}
use Rattle.turn_lock.specs.Histories.{NoneBy}
use Rattle.ipam_model.specs.declared.entry.Entry.{Entry}
use Rattle.ipam_model.specs.declared.entry.Entry.TheVariants as entry
use Rattle.ipam_model.specs.Cluster.{ClusterState, after, fresh_run, run_after_feed, goes_on, state_of}
use Rattle.ipam_model.specs.Cluster as model
use Rattle.ipam_model.specs.History.{Base, cluster_at, slot_of_entry}
use Rattle.ipam_laws.proofs.KeptWords.{other-slot}
use Rattle.ipam_cluster.specs.declared.running.Running.{Running}
use Rattle.ipam_cluster.specs.Cluster.{IsSlot, state_in, grace_in}
use Rattle.ipam_shared.specs.Passes.{runs_at}
use Rattle.ipam_shared.specs.Turning.{times_of}

-- ---- entries of other slots

slot-after : (cluster : ClusterState) (new : Entry) (slot : ℕ) → slot_of_entry new ≢ slot → (after cluster new).slots slot ≡ cluster.slots slot
unfolding after
slot-after cluster (entry.Began other request) slot apart = other-slot other slot (fresh_run request) cluster.slots apart
slot-after cluster (entry.Fed other at live) slot apart = other-slot other slot (run_after_feed live (cluster.slots other)) cluster.slots apart
slot-after cluster (entry.Called c) slot apart = other-slot c.slot slot (goes_on cluster.store cluster.entries c.answer (cluster.slots c.slot)) cluster.slots apart
slot-after cluster (entry.Stopped other) slot apart = other-slot other slot None cluster.slots apart

pub runs-past : (base : Base) (between seen : List Entry) (slot : ℕ) → NoneBy slot_of_entry slot between → runs_at base (between ++ seen) slot ≡ runs_at base seen slot
unfolding cluster_at
runs-past base [] seen slot others = refl
runs-past base (new ∷ between) seen slot others =
    slot-after (cluster_at base (between ++ seen)) new slot others.0 ∙ runs-past base between seen slot others.1

-- a slot of which there is no entry is idle
pub runs-unused : (base : Base) (seen : List Entry) (slot : ℕ) → NoneBy slot_of_entry slot seen → runs_at base seen slot ≡ None
unfolding cluster_at
runs-unused base [] slot others = refl
runs-unused base (new ∷ seen) slot others = slot-after (cluster_at base seen) new slot others.0 ∙ runs-unused base seen slot others.1

-- ---- the slots of a cluster that stands for a history

pub same-some : (a : Option Running) (b : Option model.RunningRequest) → IsSlot a b → IsSome a ↔ IsSome b
same-some None None h = (λ e. e, λ e. e)
same-some None (Some one) h = absurd h
same-some (Some running) None h = absurd h
same-some (Some running) (Some one) h = (λ e. refl, λ e. refl)

pub same-none : (a : Option Running) (b : Option model.RunningRequest) → IsSlot a b → (a ≡ None) ↔ (b ≡ None)
same-none None None h = (λ e. refl, λ e. refl)
same-none None (Some one) h = absurd h
same-none (Some running) None h = absurd h
same-none (Some running) (Some one) h = (λ e. cc, λ e. cc)

pub same-state : (a : Option Running) (b : Option model.RunningRequest) → IsSlot a b → state_in a ≡ state_of b
same-state None None h = refl
same-state None (Some one) h = absurd h
same-state (Some running) None h = absurd h
same-state (Some running) (Some one) h = ap (λ word. state_of (Some (record one { word = word }))) h.word

pub same-times : (a : Option Running) (b : Option model.RunningRequest) → IsSlot a b → grace_in a ≡ times_of b
same-times None None h = refl
same-times None (Some one) h = absurd h
same-times (Some running) None h = absurd h
same-times (Some running) (Some one) h = h.grace
