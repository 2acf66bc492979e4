-- The times of the collections that run are kept, and tell when a second list is too early.
use Rattle.std.proofs.Common.{◌≡◌, ◌≢◌, ℕ, ◌<◌, Bool, true, false, List, ◌∷◌, length, Option, Some, None, refl, sym, ap, ◌∙◌, subst, eq-eqb, eqb-true, inl, inr, ◌⊎◌}
use Rattle.std.specs.Prelude.{◌==◌, slice_index, slice_set, if◌then◌else◌}
use Rattle.std.proofs.lemmas.List.{get_or-set_same, get_or-set_other}
use Rattle.ipam_collect.specs.declared.collect.Grace.{Grace}
use Rattle.ipam_model.specs.declared.answer.Answer.{Answer}
use Rattle.ipam_model.specs.declared.entry.Entry.{Entry}
use Rattle.ipam_model.specs.declared.entry.Entry.TheVariants as entry
use Rattle.ipam_model.specs.declared.request.CollectRequest.{CollectRequest}
use Rattle.ipam_model.specs.declared.request.Request.{Request}
use Rattle.ipam_model.specs.declared.request.Request.TheVariants as request_of
use Rattle.ipam_model.specs.Cluster as model
use Rattle.ipam_model.specs.Cluster.{after, goes_on, run_after_feed, fresh_run}
use Rattle.ipam_model.specs.History.{Base, cluster_at}
use Rattle.ipam_records.specs.Datastore.{Datastore}
use Rattle.ipam_cluster.specs.declared.running.Running.{Running}
use Rattle.ipam_cluster.specs.Running.{grace_of}
use Rattle.ipam_cluster.specs.declared.cluster.Cluster.{Cluster}
use Rattle.ipam_cluster.specs.Cluster.{AddsTo, IsSlot, IsUnchanged, StandsFor, grace_in, slot_of_cluster}
use Rattle.ipam_play.specs.declared.cluster.OpenCluster.{OpenCluster}
use Rattle.ipam_play.specs.Times.{IsTimed, StandsTimed, times_asked}

-- ---- what a request asks for

pub no_times : (request : Request) → ((asked : CollectRequest) → request ≡ request_of.Collect asked → ⊥) → times_asked request ≡ (0, 0)
no_times (request_of.Collect asked) other = absurd (other asked refl)
no_times (request_of.Add add) other = refl
no_times (request_of.AddThis add address) other = refl
no_times (request_of.Del id) other = refl
no_times (request_of.Check id addresses) other = refl
no_times (request_of.Release node cidr) other = refl
no_times (request_of.Admin change) other = refl
no_times (request_of.Probe probe) other = refl

asks_times : (request : Request) (grace : Grace) → grace_of request ≡ Some grace → ((times_asked request).0 ≡ grace.at) × ((times_asked request).1 ≡ grace.grace)
asks_times (request_of.Collect asked) grace e = (cc e, cc e)
asks_times (request_of.Add add) grace e = absurd (cc e)
asks_times (request_of.AddThis add address) grace e = absurd (cc e)
asks_times (request_of.Del id) grace e = absurd (cc e)
asks_times (request_of.Check id addresses) grace e = absurd (cc e)
asks_times (request_of.Release node cidr) grace e = absurd (cc e)
asks_times (request_of.Admin change) grace e = absurd (cc e)
asks_times (request_of.Probe probe) grace e = absurd (cc e)

unequal : (one other : ℕ) → one ≡ other → (one == other) ≡ false → ⊥
unequal one other same differs = cc (sym (eq-eqb one other same) ∙ differs)

-- ---- what an entry makes of the times of what runs

-- the times of what runs
abbrev pub grace_asked_in : Option model.RunningRequest → Option Grace
grace_asked_in None = None
grace_asked_in (Some one) = grace_of one.request

in_both : (code : Option Running) (one : Option model.RunningRequest) → IsSlot code one → grace_in code ≡ grace_asked_in one
in_both None None is = refl
in_both None (Some one) is = absurd is
in_both (Some running) None is = absurd is
in_both (Some running) (Some one) is = is.grace

after-fed : (live : List (List ℕ)) (one : Option model.RunningRequest) → grace_asked_in (run_after_feed live one) ≡ grace_asked_in one
after-fed live None = refl
after-fed live (Some one) = refl

after-called : (store : Datastore) (moment : ℕ) (answer : Option Answer) (one : Option model.RunningRequest) (grace : Grace) → grace_asked_in (goes_on store moment answer one) ≡ Some grace → grace_asked_in one ≡ Some grace
after-called store moment (Some answer) one grace e = absurd (cc e)
after-called store moment None None grace e = e
after-called store moment None (Some one) grace e = e

-- it begins no request
abbrev pub BeginsNone : Entry → Type 0
BeginsNone (entry.Began slot request) = ⊥
BeginsNone (entry.Called c) = Unit {0}
BeginsNone (entry.Fed slot at live) = Unit {0}
BeginsNone (entry.Stopped slot) = Unit {0}

at_slot : (slots : model.Slots) (slot : ℕ) (running : Option model.RunningRequest) (other : ℕ) (grace : Grace)
    → (grace_asked_in running ≡ Some grace → grace_asked_in (slots slot) ≡ Some grace)
    → grace_asked_in (model.with_slot slot running slots other) ≡ Some grace → grace_asked_in (slots other) ≡ Some grace
at_slot slots slot running other grace here h = by (other == slot) refl h
  where
    by : (b : Bool) → (other == slot) ≡ b → grace_asked_in (if b then running else slots other) ≡ Some grace → grace_asked_in (slots other) ≡ Some grace
    by true e k = subst (λ (n : ℕ). grace_asked_in (slots n) ≡ Some grace) (sym (eqb-true other slot e)) (here k)
    by false e k = k

kept : (it : model.ClusterState) (new : Entry) (other : ℕ) (grace : Grace) → BeginsNone new → grace_asked_in ((after it new).slots other) ≡ Some grace → grace_asked_in (it.slots other) ≡ Some grace
unfolding after
kept it (entry.Began slot request) other grace none h = absurd none
kept it (entry.Called c) other grace none h =
    at_slot it.slots c.slot (goes_on it.store it.entries c.answer (it.slots c.slot)) other grace (after-called it.store it.entries c.answer (it.slots c.slot) grace) h
kept it (entry.Fed slot at live) other grace none h =
    at_slot it.slots slot (run_after_feed live (it.slots slot)) other grace (λ k. sym (after-fed live (it.slots slot)) ∙ k) h
kept it (entry.Stopped slot) other grace none h = at_slot it.slots slot None other grace (λ k. absurd (cc k)) h

-- a request begins there, or all is as it was
began : (it : model.ClusterState) (slot : ℕ) (request : Request) (other : ℕ) (grace : Grace) → grace_asked_in ((after it (entry.Began slot request)).slots other) ≡ Some grace
    → ((other ≡ slot) × (grace_of request ≡ Some grace)) ⊎ ((other ≢ slot) × (grace_asked_in (it.slots other) ≡ Some grace))
unfolding after
began it slot request other grace h = by (other == slot) refl h
  where
    by : (b : Bool) → (other == slot) ≡ b → grace_asked_in (if b then fresh_run request else it.slots other) ≡ Some grace
        → ((other ≡ slot) × (grace_of request ≡ Some grace)) ⊎ ((other ≢ slot) × (grace_asked_in (it.slots other) ≡ Some grace))
    by true e k = inl (eqb-true other slot e, k)
    by false e k = inr ((λ same. unequal other slot same e), k)

cluster-next : (base : Base) (history : List Entry) (new : Entry) → cluster_at base (new ∷ history) ≡ after (cluster_at base history) new
unfolding cluster_at
cluster-next base history new = refl

there : (cluster : Cluster) (base : Base) (history : List Entry) → StandsFor cluster base history → (slot : ℕ) → grace_in (slot_of_cluster cluster slot) ≡ grace_asked_in ((cluster_at base history).slots slot)
there cluster base history h slot = in_both (slot_of_cluster cluster slot) ((cluster_at base history).slots slot) (h.is_cluster.slots slot)

there-next : (old new : Cluster) (base : Base) (history : List Entry) (made : Entry) → StandsFor old base history → AddsTo old new made → (slot : ℕ) (grace : Grace) → grace_in (slot_of_cluster new slot) ≡ Some grace
    → grace_asked_in ((after (cluster_at base history) made).slots slot) ≡ Some grace
there-next old new base history made h adds slot grace e =
    ap (λ (it : model.ClusterState). grace_asked_in (it.slots slot)) (sym (cluster-next base history made))
    ∙ sym (there new base (made ∷ history) (adds base history h) slot) ∙ e

-- ---- of a cluster

pub timed_on : (old new : OpenCluster) (made : Entry) → StandsTimed old → AddsTo old.cluster new.cluster made → BeginsNone made → new.at ≡ old.at → new.grace ≡ old.grace → IsTimed new
timed_on old new made ((base, (history, h)), timed) adds none at graces = λ slot grace e.
    let was = kept (cluster_at base history) made slot grace none (there-next old.cluster new.cluster base history made h adds slot grace e) in
    let times = timed slot grace (there old.cluster base history h slot ∙ was) in
    (ap (λ (l : List ℕ). slice_index l slot) at ∙ times.0, ap (λ (l : List ℕ). slice_index l slot) graces ∙ times.1)

pub timed_began : (old new : OpenCluster) (slot : ℕ) (request : Request) → StandsTimed old → AddsTo old.cluster new.cluster (entry.Began slot request) → slot < length old.at → slot < length old.grace
    → new.at ≡ slice_set old.at slot (times_asked request).0 → new.grace ≡ slice_set old.grace slot (times_asked request).1 → IsTimed new
timed_began old new slot request ((base, (history, h)), timed) adds one two at graces = λ other grace e.
    by other grace (began (cluster_at base history) slot request other grace (there-next old.cluster new.cluster base history (entry.Began slot request) h adds other grace e))
  where
    by : (other : ℕ) (grace : Grace) → ((other ≡ slot) × (grace_of request ≡ Some grace)) ⊎ ((other ≢ slot) × (grace_asked_in ((cluster_at base history).slots other) ≡ Some grace))
        → (slice_index new.at other ≡ grace.at) × (slice_index new.grace other ≡ grace.grace)
    by other grace (inl (same, asks)) =
        let times = asks_times request grace asks in (
          ap (λ (l : List ℕ). slice_index l other) at ∙ ap (λ (n : ℕ). slice_index (slice_set old.at slot (times_asked request).0) n) same ∙ get_or-set_same old.at slot (times_asked request).0 0 one ∙ times.0,
          ap (λ (l : List ℕ). slice_index l other) graces ∙ ap (λ (n : ℕ). slice_index (slice_set old.grace slot (times_asked request).1) n) same ∙ get_or-set_same old.grace slot (times_asked request).1 0 two ∙ times.1,
        )
    by other grace (inr (differs, was)) =
        let times = timed other grace (there old.cluster base history h other ∙ was) in (
          ap (λ (l : List ℕ). slice_index l other) at ∙ get_or-set_other old.at slot other (times_asked request).0 0 differs ∙ times.0,
          ap (λ (l : List ℕ). slice_index l other) graces ∙ get_or-set_other old.grace slot other (times_asked request).1 0 differs ∙ times.1,
        )

-- nothing runs in this slot, and the others are as they were
pub timed_stopped : (old new : OpenCluster) (slot : ℕ) → IsTimed old → slot_of_cluster new.cluster slot ≡ None → ((other : ℕ) → ¬ (other ≡ slot) → slot_of_cluster new.cluster other ≡ slot_of_cluster old.cluster other)
    → new.at ≡ old.at → new.grace ≡ old.grace → IsTimed new
timed_stopped old new slot timed idle others at graces = λ other grace e. by other grace (other == slot) refl e
  where
    by : (other : ℕ) (grace : Grace) (b : Bool) → (other == slot) ≡ b → grace_in (slot_of_cluster new.cluster other) ≡ Some grace → (slice_index new.at other ≡ grace.at) × (slice_index new.grace other ≡ grace.grace)
    by other grace true same e =
        let none : grace_in (slot_of_cluster new.cluster other) ≡ None = ap (λ (n : ℕ). grace_in (slot_of_cluster new.cluster n)) (eqb-true other slot same) ∙ ap grace_in idle in
        absurd (cc (sym none ∙ e))
    by other grace false differs e =
        let times = timed other grace (ap grace_in (sym (others other (λ same. unequal other slot same differs))) ∙ e) in
        (ap (λ (l : List ℕ). slice_index l other) at ∙ times.0, ap (λ (l : List ℕ). slice_index l other) graces ∙ times.1)

-- nothing runs at all
pub never_timed : (cluster : Cluster) → ((slot : ℕ) → slot_of_cluster cluster slot ≡ None) → (slot : ℕ) (grace : Grace) → grace_in (slot_of_cluster cluster slot) ≡ Some grace → ⊥
never_timed cluster idle slot grace e = cc (sym (ap grace_in (idle slot)) ∙ e)

-- the slots are as they were
pub timed_still : (old new : OpenCluster) → IsTimed old → ((slot : ℕ) → slot_of_cluster new.cluster slot ≡ slot_of_cluster old.cluster slot) → new.at ≡ old.at → new.grace ≡ old.grace → IsTimed new
timed_still old new timed same at graces = λ slot grace e.
    let times = timed slot grace (ap grace_in (sym (same slot)) ∙ e) in
    (ap (λ (l : List ℕ). slice_index l slot) at ∙ times.0, ap (λ (l : List ℕ). slice_index l slot) graces ∙ times.1)

pub timed_unchanged : (old new : OpenCluster) → IsTimed old → IsUnchanged old.cluster new.cluster → new.at ≡ old.at → new.grace ≡ old.grace → IsTimed new
timed_unchanged old new timed same at graces = timed_still old new timed same.slots at graces

-- what is added is known to begin no request
pub begins_none : (made known : Entry) → made ≡ known → BeginsNone known → BeginsNone made
begins_none made known is none = subst BeginsNone (sym is) none

pub adds_known : (old mid new : Cluster) (made known : Entry) → made ≡ known → new ≡ mid → AddsTo old mid made → AddsTo old new known
adds_known old mid new made known is same adds =
    subst (λ (e : Entry). AddsTo old new e) is (subst (λ (c : Cluster). AddsTo old c made) (sym same) adds)
