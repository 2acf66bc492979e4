-- A cluster in which nothing runs.
use Rattle.std.proofs.Common.{◌≡◌, ℕ, zero, suc, List, [], ◌∷◌, ◌++◌, Option, None, refl, sym, subst, arith}
use Rattle.std.proofs.lemmas.List.Sums.{sum_by-append, sum_by-cons}
use Rattle.ipam_laws.proofs.StandsFor.{stands}
use Rattle.ipam_laws.proofs.OpenedHistory.{opened_law}
use Rattle.ipam_model.specs.History.{cluster_at}
use Rattle.ipam_model.specs.Opened.{Texts, OpensAs}
use Rattle.ipam_cluster.specs.declared.running.Running.{Running}
use Rattle.ipam_cluster.specs.declared.cluster.Cluster.{Cluster}
use Rattle.ipam_cluster.specs.Busy.{busy, busy_count}
use Rattle.ipam_cluster.specs.Cluster.{slot_of_cluster, IsSlot, StandsFor}
use Rattle.ipam_cluster.specs.Slots.{slot_in}

pub idle_push : (items : List (Option Running)) → ((slot : ℕ) → slot_in items slot ≡ None)
    → (slot : ℕ) → slot_in (items ++ None ∷ []) slot ≡ None
idle_push [] idle zero = refl
idle_push [] idle (suc slot) = refl
idle_push (first ∷ rest) idle zero = idle zero
idle_push (first ∷ rest) idle (suc slot) = idle_push rest (λ s. idle (suc s)) slot

pub busy_push : (items : List (Option Running)) → busy_count items ≡ 0 → busy_count (items ++ None ∷ []) ≡ 0
busy_push items none =
    let whole = sum_by-append busy items (None ∷ []) in
    let one = sum_by-cons busy None [] in
    omega (arith, whole, one, none)

idle_is : (code : Option Running) → code ≡ None → IsSlot code None
idle_is code e = subst (λ (o : Option Running). IsSlot o None) (sym e) tt

pub opens : (cluster : Cluster) (texts : Texts) (first : ℕ) → OpensAs texts cluster.store.store → cluster.entries ≡ first
    → ((slot : ℕ) → slot_of_cluster cluster slot ≡ None)
    → StandsFor cluster (record { store = cluster.store.store; first = first }) []
unfolding cluster_at
opens cluster texts first opened count idle = record {
  is_cluster = record { store = refl; entries = count; slots = λ slot. idle_is (slot_of_cluster cluster slot) (idle slot) };
  stands = stands.opened (record { store = cluster.store.store; first = first }) (opened_law texts cluster.store.store opened);
}
