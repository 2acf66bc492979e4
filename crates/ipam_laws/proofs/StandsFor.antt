-- A cluster stands for a history, and where nothing runs one is begun anew.
use Rattle.std.proofs.Common.{◌≡◌, ℕ, ◌+◌, ◌<◌, List, [], ◌∷◌, ◌++◌, None, refl, sym, ap, ◌∙◌, subst, arith, nat_lt, ltb-true, ltb-false, inl, inr}
use Rattle.std.proofs.Math.Path.{fun_ext}
use Rattle.std.proofs.lemmas.Bool.{cases_Bool}
use Rattle.ipam_records.specs.Datastore.{Datastore}
use Rattle.ipam_model.specs.declared.entry.Entry.{Entry}
use Rattle.ipam_model.specs.declared.entry.Entry.TheVariants as entry
use Rattle.ipam_model.specs.Cluster.{ClusterState, after, fresh_run, run_after_feed, goes_on}
use Rattle.ipam_model.specs.Consistent.{IsConsistent}
use Rattle.ipam_model.specs.Course.{slot_count}
use Rattle.ipam_model.specs.History.{Base, Lawful, MayCome, cluster_at, moment_of, start}
use Rattle.ipam_model.specs.Stands.{AnewLaw, EntriesLaw, IsIdle, Stands, StandsLaw, base_at}
use Rattle.ipam_laws.proofs.KeptWords.{other-slot}

-- ---- standing

stands-after : (cluster : ClusterState) (new : Entry) → MayCome cluster new → (base : Base) (history : List Entry) → Stands cluster base history → Stands (after cluster new) base (new ∷ history)
unfolding Lawful cluster_at
stands-after cluster new may base history h = record {
  consistent = h.consistent;
  lawful = (h.lawful, subst (λ (c : ClusterState). MayCome c new) h.is_cluster may);
  is_cluster = ap (λ (c : ClusterState). after c new) h.is_cluster;
}

-- ---- its entries and slots

after-entries : (cluster : ClusterState) (new : Entry) → (after cluster new).entries ≡ cluster.entries + 1
unfolding after
after-entries cluster (entry.Began slot request) = refl
after-entries cluster (entry.Fed slot at live) = refl
after-entries cluster (entry.Called c) = refl
after-entries cluster (entry.Stopped slot) = refl

pub entries-are : (base : Base) (history : List Entry) → (cluster_at base history).entries ≡ moment_of base history
unfolding cluster_at
entries-are base [] = omega arith
entries-are base (new ∷ history) =
    let one = after-entries (cluster_at base history) new in
    let rest = entries-are base history in
    omega arith

after-no_more : (cluster : ClusterState) (new : Entry) → MayCome cluster new → (slot : ℕ) → ¬ (slot < slot_count) → cluster.slots slot ≡ None → (after cluster new).slots slot ≡ None
unfolding after
after-no_more cluster (entry.Began other request) may slot over idle =
    other-slot other slot (fresh_run request) cluster.slots (λ e. over (subst (λ (s : ℕ). s < slot_count) e may.turn.slot_exists)) ∙ idle
after-no_more cluster (entry.Fed other at live) may slot over idle =
    other-slot other slot (run_after_feed live (cluster.slots other)) cluster.slots (λ e. over (subst (λ (s : ℕ). s < slot_count) e may.turn.slot_exists)) ∙ idle
after-no_more cluster (entry.Called c) may slot over idle =
    other-slot c.slot slot (goes_on cluster.store cluster.entries c.answer (cluster.slots c.slot)) cluster.slots (λ e. over (subst (λ (s : ℕ). s < slot_count) e may.turn.slot_exists)) ∙ idle
after-no_more cluster (entry.Stopped other) may slot over idle =
    other-slot other slot None cluster.slots (λ e. over (subst (λ (s : ℕ). s < slot_count) e may.slot_exists)) ∙ idle

pub no_more : (base : Base) (history : List Entry) → Lawful base history → (slot : ℕ) → ¬ (slot < slot_count) → (cluster_at base history).slots slot ≡ None
unfolding Lawful cluster_at
no_more base [] h slot over = refl
no_more base (new ∷ history) h slot over = after-no_more (cluster_at base history) new h.1 slot over (no_more base history h.0 slot over)

pub entries_are_counted : EntriesLaw
entries_are_counted cluster base history h = record {
  entries = ap (λ (c : ClusterState). c.entries) h.is_cluster ∙ entries-are base history;
  no_more = λ slot over. ap (λ (c : ClusterState). c.slots slot) h.is_cluster ∙ no_more base history h.lawful slot over;
}

-- ---- anew

nothing-runs : (base : Base) (history : List Entry) → Lawful base history → IsIdle (cluster_at base history) → (slot : ℕ) → (cluster_at base history).slots slot ≡ None
nothing-runs base history h idle slot = elim (cases_Bool (nat_lt slot slot_count)) [
  | inl below ↦ idle slot (ltb-true slot slot_count below)
  | inr over ↦ no_more base history h slot (λ k. let above = ltb-false slot slot_count over in absurd (omega arith))
]

same-cluster : (cluster : ClusterState) (store : Datastore) (entries : ℕ) → cluster.store ≡ store → cluster.entries ≡ entries → ((slot : ℕ) → cluster.slots slot ≡ None)
    → cluster ≡ start (record { store = store; first = entries })
same-cluster cluster store entries stores counts idle =
    let slots : cluster.slots ≡ (λ slot. None) = fun_ext idle in
    λ i. record { store = stores i; entries = counts i; slots = slots i }

idle-cluster : (base : Base) (history : List Entry) → Lawful base history → IsIdle (cluster_at base history) → cluster_at base history ≡ start (base_at base history)
idle-cluster base history h idle =
    same-cluster (cluster_at base history) (cluster_at base history).store (moment_of base history) refl (entries-are base history) (nothing-runs base history h idle)

later-cluster : (base anew : Base) (history later : List Entry) → cluster_at base history ≡ start anew → cluster_at base (later ++ history) ≡ cluster_at anew later
unfolding cluster_at
later-cluster base anew history [] e = e
later-cluster base anew history (new ∷ later) e = ap (λ (c : ClusterState). after c new) (later-cluster base anew history later e)

later-lawful : (base anew : Base) (history later : List Entry) → cluster_at base history ≡ start anew → Lawful base (later ++ history) → Lawful anew later
unfolding Lawful cluster_at
later-lawful base anew history [] e h = tt
later-lawful base anew history (new ∷ later) e h = (
  later-lawful base anew history later e h.0,
  subst (λ (c : ClusterState). MayCome c new) (later-cluster base anew history later e) h.1,
)

joined-lawful : (base anew : Base) (history later : List Entry) → cluster_at base history ≡ start anew → Lawful base history → Lawful anew later → Lawful base (later ++ history)
unfolding Lawful cluster_at
joined-lawful base anew history [] e first h = first
joined-lawful base anew history (new ∷ later) e first h = (
  joined-lawful base anew history later e first h.0,
  subst (λ (c : ClusterState). MayCome c new) (sym (later-cluster base anew history later e)) h.1,
)

pub begins_anew : AnewLaw
begins_anew base history later h idle =
    let e = idle-cluster base history h idle in
    record {
      same_cluster = later-cluster base (base_at base history) history later e;
      same_lawful = (later-lawful base (base_at base history) history later e, joined-lawful base (base_at base history) history later e h);
    }

-- a cluster in which nothing runs stands for itself
stands-anew : (cluster : ClusterState) (base : Base) (history : List Entry) → Stands cluster base history → IsIdle cluster → IsConsistent cluster.store → Stands cluster (record { store = cluster.store; first = cluster.entries }) []
unfolding Lawful cluster_at
stands-anew cluster base history h idle consistent = record {
  consistent = consistent;
  lawful = tt;
  is_cluster = same-cluster cluster cluster.store cluster.entries refl refl nothing;
}
  where
    nothing : (slot : ℕ) → cluster.slots slot ≡ None
    nothing slot = elim (cases_Bool (nat_lt slot slot_count)) [
      | inl below ↦ idle slot (ltb-true slot slot_count below)
      | inr over ↦ ap (λ (c : ClusterState). c.slots slot) h.is_cluster ∙ no_more base history h.lawful slot (λ k. let above = ltb-false slot slot_count over in absurd (omega arith))
    ]

pub stands : StandsLaw
unfolding Lawful cluster_at
stands = record {
  opened = λ base h. record { consistent = h; lawful = tt; is_cluster = refl };
  adds = stands-after;
  anew = stands-anew;
}
