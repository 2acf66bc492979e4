-- What may come is added to each history that a cluster stands for.
use Rattle.std.proofs.Common.{◌≡◌, ℕ, ◌+◌, ◌^◌, ◌<◌, List, ◌∷◌, length, set, Option, Some, None, IsSome, IsTrue, refl, sym, ap, ◌∙◌, subst}
use Rattle.std.specs.List.{All}
use Rattle.ipam_laws.proofs.RightWhole.{right_law}
use Rattle.ipam_laws.proofs.StandsFor.{stands}
use Rattle.ipam_records.specs.Datastore.{Datastore}
use Rattle.ipam_records.specs.Sound.{IsHandleId}
use Rattle.ipam_records.specs.Word.{waits, after_feed}
use Rattle.ipam_model.specs.declared.entry.Entry.{Entry}
use Rattle.ipam_model.specs.declared.entry.Entry.TheVariants as entry
use Rattle.ipam_model.specs.declared.request.Request.{Request}
use Rattle.ipam_model.specs.declared.request.Request.TheVariants as request_of
use Rattle.ipam_model.specs.Cluster as model
use Rattle.ipam_model.specs.Cluster.{after, fresh_run, run_after_feed}
use Rattle.ipam_model.specs.Course.{is_due}
use Rattle.ipam_model.specs.History.{MayCome, MayFeed, cluster_at}
use Rattle.ipam_model.specs.Requests.{word_of}
use Rattle.ipam_model.specs.SoundRequest.{IsSoundRequest}
use Rattle.ipam_cluster.specs.declared.running.Running.{Running}
use Rattle.ipam_cluster.specs.Running.{running_rest, running_grace, grace_of, is_over}
use Rattle.ipam_cluster.specs.declared.cluster.Cluster.{Cluster}
use Rattle.ipam_cluster.specs.Cluster.{slot_of_cluster, Runs, IsSlot, IsCluster, AddsTo, StaysRight}
use Rattle.ipam_cluster.specs.Slots.{slot_in, IsDue, RunsOn}
use Rattle.ipam_cluster.proofs.SlotLemmas.{slots_with}

-- an entry that may come to each cluster that this one stands for
pub adds : (old new : Cluster) (added : Entry)
    → ((one : model.ClusterState) → IsCluster old one → MayCome one added × IsCluster new (after one added))
    → AddsTo old new added
unfolding cluster_at
adds old new added may base history stood =
    let next = may (cluster_at base history) stood.is_cluster in
    record {
      is_cluster = next.1;
      stands = stands.adds (cluster_at base history) added next.0 base history stood.stands;
    }

-- what adds itself to each history leaves each right
pub stays_right : (old new : Cluster) (added : Entry) → AddsTo old new added → StaysRight old added
unfolding StaysRight
stays_right old new added adds base history stood =
    let next = adds base history stood in
    right_law base (added ∷ history) next.stands.consistent next.stands.lawful

-- this datastore, one entry more, and this in the slot
pub moved : (old new : Cluster) (one : model.ClusterState) (slot : ℕ) (code : Option Running) (running : Option model.RunningRequest) (store : Datastore)
    → IsCluster old one → slot < length old.slots.items → new.store.store ≡ store → new.entries ≡ old.entries + 1
    → new.slots.items ≡ set old.slots.items slot code → IsSlot code running
    → IsCluster new (record { store = store; entries = one.entries + 1; slots = model.with_slot slot running one.slots })
moved old new one slot code running store is within stores entries slots this = record {
  store = stores;
  entries = entries ∙ ap (λ n. n + 1) is.entries;
  slots = λ s. subst (λ (items : List (Option Running)). IsSlot (slot_in items s) (model.with_slot slot running one.slots s)) (sym slots)
      (slots_with old.slots.items one.slots slot code running within is.slots this s);
}

-- the same datastore
pub in_slot : (old new : Cluster) (one : model.ClusterState) (slot : ℕ) (code : Option Running) (running : Option model.RunningRequest)
    → IsCluster old one → slot < length old.slots.items → new.store.store ≡ old.store.store → new.entries ≡ old.entries + 1
    → new.slots.items ≡ set old.slots.items slot code → IsSlot code running → IsCluster new (model.in_slot slot running one)
in_slot old new one slot code running is within store entries slots this =
    moved old new one slot code running one.store is within (store ∙ is.store) entries slots this

-- ---- what runs in a slot of the one runs in that of the other

pub none_there : (code : Option Running) (one : Option model.RunningRequest) → IsSlot code one → code ≡ None → one ≡ None
none_there None None is e = refl
none_there None (Some one) is e = absurd is
none_there (Some r) one is e = absurd (cc e)

pub some_there : (code : Option Running) (one : Option model.RunningRequest) → IsSlot code one → (code ≡ None → ⊥) → IsSome one
some_there None one is e = absurd (e refl)
some_there (Some r) None is e = absurd is
some_there (Some r) (Some one) is e = refl

pub record RunsThere (running : Running) (one : Option model.RunningRequest) : Type 0 where
  pub it : model.RunningRequest
  pub is : one ≡ Some it
  pub runs : Runs running it

pub runs_there : (code : Option Running) (one : Option model.RunningRequest) (running : Running) → IsSlot code one → code ≡ Some running → RunsThere running one
runs_there None one running is e = absurd (cc e)
runs_there (Some r) None running is e = absurd is
runs_there (Some r) (Some one) running is e =
    let same : r ≡ running = cc e in
    record { it = one; is = refl; runs = subst (λ (x : Running). Runs x one) same is }

-- ---- a request begins, or is stopped

pub begins : (old new : Cluster) (slot : ℕ) (running : Running) (request : Request)
    → slot < 64 → length old.slots.items ≡ 64 → old.entries < 2 ^ 62 → slot_of_cluster old slot ≡ None → IsSoundRequest request
    → running_rest running ≡ word_of request → running_grace running ≡ grace_of request
    → new.store.store ≡ old.store.store → new.entries ≡ old.entries + 1
    → new.slots.items ≡ set old.slots.items slot (Some running)
    → AddsTo old new (entry.Began slot request)
unfolding after
begins old new slot running request there all few idle sound word grace store entries slots =
    adds old new (entry.Began slot request) (λ one is. (
      record {
        turn = record { slot_exists = there; not_worn = subst (λ n. n < 2 ^ 62) is.entries few };
        idle = none_there (slot_of_cluster old slot) (one.slots slot) (is.slots slot) idle;
        sound = sound;
      },
      in_slot old new one slot (Some running) (fresh_run request) is (subst (λ n. slot < n) (sym all) there) store entries slots
          (record { word = word; grace = grace }),
    ))

pub stopped : (old new : Cluster) (slot : ℕ)
    → slot < 64 → length old.slots.items ≡ 64 → (slot_of_cluster old slot ≡ None → ⊥)
    → new.store.store ≡ old.store.store → new.entries ≡ old.entries + 1
    → new.slots.items ≡ set old.slots.items slot None
    → AddsTo old new (entry.Stopped slot)
unfolding after
stopped old new slot there all busy store entries slots =
    adds old new (entry.Stopped slot) (λ one is. (
      record { slot_exists = there; runs = some_there (slot_of_cluster old slot) (one.slots slot) (is.slots slot) busy },
      in_slot old new one slot None None is (subst (λ n. slot < n) (sym all) there) store entries slots tt,
    ))

-- ---- a collection has its second list

-- the grace of what runs is that of its request
pub due_asked : (request : Request) (at : ℕ) → is_over (grace_of request) at ≡ is_due request at
due_asked (request_of.Collect asked) at = refl
due_asked (request_of.Add add) at = refl
due_asked (request_of.AddThis add address) at = refl
due_asked (request_of.Del id) at = refl
due_asked (request_of.Check id addresses) at = refl
due_asked (request_of.Release node cidr) at = refl
due_asked (request_of.Admin change) at = refl
due_asked (request_of.Probe probe) at = refl

due_there : (old : Cluster) (one : model.ClusterState) (slot at : ℕ) (live : List (List ℕ)) (running : Running)
    → IsCluster old one → slot < 64 → old.entries < 2 ^ 62 → slot_of_cluster old slot ≡ Some running
    → IsTrue (waits (running_rest running)) → IsTrue (is_over (running_grace running) at) → All IsHandleId live
    → MayFeed one slot at live
due_there old one slot at live running is there few held waiting over sound =
    let found = runs_there (slot_of_cluster old slot) (one.slots slot) running (is.slots slot) held in
    record {
      turn = record { slot_exists = there; not_worn = subst (λ n. n < 2 ^ 62) is.entries few };
      running = found.it;
      runs = found.is;
      waiting = sym (ap waits found.runs.word) ∙ waiting;
      due = sym (due_asked found.it.request at) ∙ sym (ap (λ g. is_over g at) found.runs.grace) ∙ over;
      sound = sound;
    }

fed_there : (one : Option model.RunningRequest) (was after : Running) (live : List (List ℕ)) → RunsThere was one
    → running_rest after ≡ after_feed (running_rest was) live → running_grace after ≡ running_grace was
    → IsSlot (Some after) (run_after_feed live one)
fed_there one was after live found word grace =
    subst (λ (o : Option model.RunningRequest). IsSlot (Some after) (run_after_feed live o)) (sym found.is)
    (record { word = word ∙ ap (λ w. after_feed w live) found.runs.word; grace = grace ∙ found.runs.grace })

pub due_running : (code : Option Running) (at : ℕ) → IsDue code at → (running : Running) × (code ≡ Some running) × IsDue (Some running) at
due_running None at due = absurd due
due_running (Some running) at due = (running, refl, due)

pub feeds : (old new : Cluster) (slot at : ℕ) (live copy : List (List ℕ)) (was : Running)
    → slot < 64 → length old.slots.items ≡ 64 → old.entries < 2 ^ 62 → slot_of_cluster old slot ≡ Some was
    → IsDue (Some was) at → All IsHandleId live → copy ≡ live
    → RunsOn old.slots.items new.slots.items slot was (after_feed (running_rest was) live)
    → new.store.store ≡ old.store.store → new.entries ≡ old.entries + 1
    → AddsTo old new (entry.Fed slot at copy)
unfolding after
feeds old new slot at live copy was there all few held due sound same on store entries =
    let added = adds old new (entry.Fed slot at live) (λ one is. (
      due_there old one slot at live was is there few held due.0 due.1 sound,
      in_slot old new one slot (Some on.running) (run_after_feed live (one.slots slot)) is (subst (λ n. slot < n) (sym all) there) store entries on.slots
          (fed_there (one.slots slot) was on.running live (runs_there (slot_of_cluster old slot) (one.slots slot) was (is.slots slot) held) on.word on.grace),
    )) in
    subst (λ (l : List (List ℕ)). AddsTo old new (entry.Fed slot at l)) (sym same) added
