-- Which requests run.
use Rattle.std.proofs.Common.{◌≡◌, ℕ, true, false, List, [], ◌∷◌, Option, Some, None, refl, sym, ap, ◌∙◌, subst}
use Rattle.std.specs.Prelude.{◌==◌, if◌then◌else◌}
use Rattle.ipam_records.specs.Datastore.{Datastore}
use Rattle.ipam_records.specs.Word.{waits}
use Rattle.ipam_model.specs.declared.answer.Answer.{Answer}
use Rattle.ipam_model.specs.declared.entry.Entry.{Entry}
use Rattle.ipam_model.specs.declared.entry.Entry.TheVariants as entry
use Rattle.ipam_model.specs.declared.entry.Fate.TheVariants.{Well}
use Rattle.ipam_model.specs.declared.entry.SlotState.TheVariants as state
use Rattle.ipam_model.specs.declared.request.CollectRequest.{CollectRequest}
use Rattle.ipam_model.specs.declared.request.Request.{Request}
use Rattle.ipam_model.specs.declared.request.Request.TheVariants.{Add, AddThis, Del, Check, Release, Collect, Admin, Probe}
use Rattle.ipam_model.specs.Cluster as model
use Rattle.ipam_model.specs.Cluster.{after, run_after_feed, goes_on, with_slot}
use Rattle.ipam_model.specs.Course.{Event, Begin, Turn, Feed, Stop, Restart}
use Rattle.ipam_model.specs.CourseLaw.{event_of}
use Rattle.ipam_model.specs.History.{cluster_at}
use Rattle.ipam_model.specs.Requests.{word_of}
use Rattle.ipam_collect.specs.Collect.{grace_asked}
use Rattle.ipam_cluster.specs.declared.running.Running.{Running}
use Rattle.ipam_cluster.specs.Running.{running_rest, running_grace, grace_of}
use Rattle.ipam_cluster.proofs.StillLemmas.{waits_with}
use Rattle.ipam_cluster.specs.declared.cluster.Cluster.{Cluster}
use Rattle.ipam_cluster.proofs.Waiting.{asks-times, is-waiting}
use Rattle.ipam_cluster.specs.Cluster.{IsSlot, StandsFor, WaitsWith, grace_in, slot_of_cluster, state_in}
use Rattle.ipam_command.specs.Counted.{AllRun, IfRuns, IsAtOnce, IsNoCollection}
use Rattle.ipam_command.specs.Generated.{slot_at}
use Rattle.ipam_command.specs.Requests.{base}

-- ---- one entry more

-- what begins with the event is allowed
abbrev Allows : (Request → Type 0) → Event → Type 0
Allows Holds (Begin slot request) = Holds request
Allows Holds _ = Unit {0}

module _ (Holds : Request → Type 0) where
  put : (slot : ℕ) (one : Option model.RunningRequest) (slots : model.Slots) → IfRuns Holds one → ((k : ℕ) → IfRuns Holds (slots k))
      → (k : ℕ) → IfRuns Holds (with_slot slot one slots k)
  put slot one slots own all k = elim (k == slot) as (λ b. IfRuns Holds (if b then one else slots k)) [ true ↦ own | false ↦ all k ]

  answered : (store : Datastore) (moment : ℕ) (told : Option Answer) (one : Option model.RunningRequest) → IfRuns Holds one → IfRuns Holds (goes_on store moment told one)
  answered store moment (Some told) one h = tt
  answered store moment None None h = tt
  answered store moment None (Some running) h = h

  fed-list : (live : List (List ℕ)) (one : Option model.RunningRequest) → IfRuns Holds one → IfRuns Holds (run_after_feed live one)
  fed-list live None h = tt
  fed-list live (Some running) h = h

  runs-after : (cluster : model.ClusterState) (made : Entry) → ((k : ℕ) → IfRuns Holds (cluster.slots k)) → Allows Holds (event_of made)
      → (k : ℕ) → IfRuns Holds ((after cluster made).slots k)
  unfolding after
  runs-after cluster (entry.Began slot request) all own = put slot (Some (record { request = request; word = word_of request })) cluster.slots own all
  runs-after cluster (entry.Fed slot at live) all own = put slot (run_after_feed live (cluster.slots slot)) cluster.slots (fed-list live (cluster.slots slot) (all slot)) all
  runs-after cluster (entry.Stopped slot) all own = put slot None cluster.slots tt all
  runs-after cluster (entry.Called c) all own =
      put c.slot (goes_on cluster.store cluster.entries c.answer (cluster.slots c.slot)) cluster.slots
      (answered cluster.store cluster.entries c.answer (cluster.slots c.slot) (all c.slot)) all

  runs-more : (history : List Entry) (made : Entry) → AllRun Holds history → Allows Holds (event_of made) → AllRun Holds (made ∷ history)
  unfolding cluster_at
  runs-more history made all own = runs-after (cluster_at base history) made all own

pub turn-runs : (Holds : Request → Type 0) (history : List Entry) (made : Entry) (slot : ℕ) → AllRun Holds history → event_of made ≡ Turn slot Well → AllRun Holds (made ∷ history)
turn-runs Holds history made slot all is = runs-more Holds history made all (subst (λ (e : Event). Allows Holds e) (sym is) tt)

pub feed-runs : (Holds : Request → Type 0) (history : List Entry) (made : Entry) (slot at : ℕ) (live : List (List ℕ)) → AllRun Holds history → event_of made ≡ Feed slot at live → AllRun Holds (made ∷ history)
feed-runs Holds history made slot at live all is = runs-more Holds history made all (subst (λ (e : Event). Allows Holds e) (sym is) tt)

pub begin-runs : (Holds : Request → Type 0) (history : List Entry) (made : Entry) (slot : ℕ) (request : Request) → AllRun Holds history → Holds request → event_of made ≡ Begin slot request
    → AllRun Holds (made ∷ history)
begin-runs Holds history made slot request all own is = runs-more Holds history made all (subst (λ (e : Event). Allows Holds e) (sym is) own)

-- ---- at first, and for another reason

pub none-run : (Holds : Request → Type 0) → AllRun Holds []
unfolding cluster_at
none-run Holds slot = tt

plain-at-once : (request : Request) → IsNoCollection request → IsAtOnce request
plain-at-once (Collect request) h = absurd h
plain-at-once (Add request) h = tt
plain-at-once (AddThis request address) h = tt
plain-at-once (Del id) h = tt
plain-at-once (Check id addresses) h = tt
plain-at-once (Release node cidr) h = tt
plain-at-once (Admin change) h = tt
plain-at-once (Probe probe) h = tt

pub all-at-once : (history : List Entry) → AllRun IsNoCollection history → AllRun IsAtOnce history
all-at-once history all slot = by (slot_at history slot) (all slot)
  where
    by : (one : Option model.RunningRequest) → IfRuns IsNoCollection one → IfRuns IsAtOnce one
    by None h = tt
    by (Some running) h = plain-at-once running.request h

-- ---- what waits

-- a collection waits there
record Waits (held : Option Running) (one : Option model.RunningRequest) : Type 0 where
  running : model.RunningRequest
  runs : one ≡ Some running
  collect : CollectRequest
  is : running.request ≡ Collect collect
  times : grace_in held ≡ Some (grace_asked collect)

found : (held : Option Running) (one : Option model.RunningRequest) → IsSlot held one → state_in held ≡ state.Waiting → Waits held one
found None one is waiting = absurd (cc waiting)
found (Some running) None is waiting = absurd is
found (Some running) (Some one) is waiting =
    let (grace, has) = waits_with running (is-waiting (waits (running_rest running)) waiting) in
    let (collect, same) = asks-times one.request grace (sym is.grace ∙ has) in
    record {
      running = one;
      runs = refl;
      collect = collect;
      is = same;
      times = is.grace ∙ ap grace_of same;
    }

there : (cluster : Cluster) (history : List Entry) (slot : ℕ) → StandsFor cluster base history → state_in (slot_of_cluster cluster slot) ≡ state.Waiting
    → Waits (slot_of_cluster cluster slot) (slot_at history slot)
there cluster history slot stands waiting = found (slot_of_cluster cluster slot) (slot_at history slot) (stands.is_cluster.slots slot) waiting

-- where no collection runs, nothing waits
pub never-waits : (cluster : Cluster) (history : List Entry) (slot : ℕ) → StandsFor cluster base history → AllRun IsNoCollection history
    → ¬ (state_in (slot_of_cluster cluster slot) ≡ state.Waiting)
never-waits cluster history slot stands all waiting =
    let at = there cluster history slot stands waiting in
    let own = subst (λ (one : Option model.RunningRequest). IfRuns IsNoCollection one) at.runs (all slot) in
    subst (λ (r : Request). IsNoCollection r) at.is own

-- what waits, waits without a grace
pub waits-at-once : (cluster : Cluster) (history : List Entry) (slot : ℕ) → StandsFor cluster base history → AllRun IsAtOnce history
    → state_in (slot_of_cluster cluster slot) ≡ state.Waiting → WaitsWith (slot_of_cluster cluster slot) (record { at = 0; grace = 0 })
waits-at-once cluster history slot stands all waiting =
    let at = there cluster history slot stands waiting in
    let own = subst (λ (one : Option model.RunningRequest). IfRuns IsAtOnce one) at.runs (all slot) in
    let zero = subst (λ (r : Request). IsAtOnce r) at.is own in
    (waiting, at.times ∙ times at.collect zero)
  where
    times : (c : CollectRequest) → (c.at ≡ 0) × (c.grace ≡ 0) → Some (grace_asked c) ≡ Some (record { at = 0; grace = 0 })
    times c zero = ap (λ n. Some (record { at = n; grace = c.grace })) zero.0 ∙ ap (λ n. Some (record { at = 0; grace = n })) zero.1
