-- What runs in the slot of a pass that took a turn.
use Rattle.std.proofs.Common.{◌≡◌, ◌<◌, ℕ, ◌+◌, arith, Bool, true, false, List, [], ◌∷◌, ◌++◌, Option, Some, None, IsSome, IsTrue, refl, sym, ap, ◌∙◌, subst}
use Rattle.std.specs.Prelude.{not, if◌then◌else◌}
use Rattle.ipam_records.specs.Datastore.{Datastore}
use Rattle.ipam_records.specs.Word.{waits}
use Rattle.ipam_collect.specs.declared.collect.Grace.{Grace}
use Rattle.ipam_collect.specs.Collect.{grace_asked}
use Rattle.ipam_model.specs.declared.answer.Answer.{Answer}
use Rattle.ipam_model.specs.declared.entry.Entry.{Entry}
use Rattle.ipam_model.specs.declared.entry.Entry.TheVariants as entry
use Rattle.ipam_model.specs.declared.entry.SlotState.TheVariants as state
use Rattle.ipam_model.specs.declared.request.Request.{Request}
use Rattle.ipam_model.specs.declared.request.Request.TheVariants.{Add, AddThis, Del, Check, Release, Collect, Admin, Probe}
use Rattle.ipam_model.specs.Cluster.{ClusterState, RunningRequest, Slots, after, fresh_run, run_after_feed, goes_on, state_of, with_slot}
use Rattle.ipam_model.specs.Course.{is_due}
use Rattle.ipam_model.specs.History.{Lawful, MayFeed, cluster_at, slot_of_entry}
use Rattle.ipam_cluster.specs.Running.{grace_of}
use Rattle.ipam_laws.proofs.KeptWords.{own-slot}
use Rattle.ipam_shared.specs.PassValue.{PassValue}
use Rattle.ipam_shared.specs.Passes.{IsSamePass, runs_at, runs_in}
use Rattle.ipam_shared.specs.Turning.{SeesNext, WaitsFor}
use Rattle.ipam_shared.proofs.Slots.{runs-past}
use Rattle.ipam_serve.specs.Gains.{asked_after, request_running, is_early, is_waiting, unless_answered}

-- ---- an entry of the slot

fed-asked : (live : List (List ℕ)) (o : Option RunningRequest) → request_running (run_after_feed live o) ≡ request_running o
fed-asked live None = refl
fed-asked live (Some running) = refl

goes-asked : (store : Datastore) (moment : ℕ) (answer : Option Answer) (o : Option RunningRequest) → request_running (goes_on store moment answer o) ≡ unless_answered answer (request_running o)
goes-asked store moment (Some told) o = refl
goes-asked store moment None None = refl
goes-asked store moment None (Some running) = refl

-- what the slot is given is what it has
given : (changed slot : ℕ) (o : Option RunningRequest) (slots : Slots) → changed ≡ slot → with_slot changed o slots slot ≡ o
given changed slot o slots e = subst (λ (s : ℕ). with_slot s o slots slot ≡ o) (sym e) (own-slot slot o slots)

own-asked : (cluster : ClusterState) (new : Entry) (slot : ℕ) → slot_of_entry new ≡ slot → request_running ((after cluster new).slots slot) ≡ asked_after (request_running (cluster.slots slot)) (new ∷ [])
unfolding after asked_after
own-asked cluster (entry.Began other request) slot own = ap request_running (given other slot (fresh_run request) cluster.slots own)
own-asked cluster (entry.Fed other at live) slot own =
    ap request_running (given other slot (run_after_feed live (cluster.slots other)) cluster.slots own)
    ∙ fed-asked live (cluster.slots other) ∙ ap (λ (s : ℕ). request_running (cluster.slots s)) own
own-asked cluster (entry.Called c) slot own =
    ap request_running (given c.slot slot (goes_on cluster.store cluster.entries c.answer (cluster.slots c.slot)) cluster.slots own)
    ∙ goes-asked cluster.store cluster.entries c.answer (cluster.slots c.slot)
    ∙ ap (λ (s : ℕ). unless_answered c.answer (request_running (cluster.slots s))) own
own-asked cluster (entry.Stopped other) slot own = ap request_running (given other slot None cluster.slots own)

-- ---- a turn

module _ (old new : PassValue) (same : IsSamePass old new) where
  -- what runs in the slot is what runs there in the new history
  runs-seen : runs_in new ≡ runs_at old.base new.seen old.slot
  runs-seen = ap runs_in same

  -- without an entry it stays
  pub untold-runs : SeesNext old [] new → runs_in new ≡ runs_in old
  untold-runs sees = runs-seen ∙ ap (λ s. runs_at old.base s old.slot) sees.seen ∙ runs-past old.base sees.between old.seen old.slot sees.others

  told-asked : (told : Entry) → SeesNext old (told ∷ []) new → request_running (runs_in new) ≡ asked_after (request_running (runs_in old)) (told ∷ [])
  unfolding cluster_at
  told-asked told sees =
      ap request_running (runs-seen ∙ ap (λ s. runs_at old.base s old.slot) sees.seen)
      ∙ own-asked (cluster_at old.base (sees.between ++ old.seen)) told old.slot sees.own
      ∙ ap (λ o. asked_after (request_running o) (told ∷ [])) (runs-past old.base sees.between old.seen old.slot sees.others)

  pub next-asked : (told : List Entry) → SeesNext old told new → request_running (runs_in new) ≡ asked_after (request_running (runs_in old)) told
  unfolding asked_after
  next-asked [] sees = ap request_running (untold-runs sees)
  next-asked (one ∷ []) sees = told-asked one sees
  next-asked (one ∷ other ∷ more) sees = absurd sees.own

-- ---- what waits

pub waits-so : (o : Option RunningRequest) → state_of o ≡ state.Waiting → is_waiting o ≡ true
waits-so None e = absurd (cc e)
waits-so (Some running) e = from (waits running.word) e
  where
    from : (b : Bool) → (if b then state.Waiting else state.Running) ≡ state.Waiting → b ≡ true
    from true f = refl
    from false f = absurd (cc f)

pub waiting-so : (o : Option RunningRequest) → is_waiting o ≡ true → state_of o ≡ state.Waiting
waiting-so None e = absurd (cc e)
waiting-so (Some running) e = ap (λ b. if b then state.Waiting else state.Running) e

-- what runs and does not wait makes calls
pub running-so : (o : Option RunningRequest) → IsSome o → (state_of o ≡ state.Waiting → ⊥) → state_of o ≡ state.Running
running-so None some never = absurd (cc some)
running-so (Some running) some never = from (waits running.word) never
  where
    from : (b : Bool) → ((if b then state.Waiting else state.Running) ≡ state.Waiting → ⊥) → (if b then state.Waiting else state.Running) ≡ state.Running
    from true never = absurd (never refl)
    from false never = refl

-- no request but a collection has times
times-early : (request : Request) (since grace at : ℕ) → grace_of request ≡ Some (record { at = since; grace = grace }) → at < since + grace → is_due request at ≡ false
times-early (Collect c) since grace at e less =
    let same : grace_asked c ≡ (record { at = since; grace = grace }) = cc e in
    let first : c.at ≡ since = ap (λ (g : Grace). g.at) same in
    let second : c.grace ≡ grace = ap (λ (g : Grace). g.grace) same in
    rw (first, second) (grind (arith, less))
times-early (Add add) since grace at e less = absurd (cc e)
times-early (AddThis add address) since grace at e less = absurd (cc e)
times-early (Del id) since grace at e less = absurd (cc e)
times-early (Check id addresses) since grace at e less = absurd (cc e)
times-early (Release node cidr) since grace at e less = absurd (cc e)
times-early (Admin change) since grace at e less = absurd (cc e)
times-early (Probe probe) since grace at e less = absurd (cc e)

-- a list that is refused so is early
pub early-so : (o : Option RunningRequest) (since grace at : ℕ) → WaitsFor o (record { at = since; grace = grace }) → at < since + grace → is_early o at ≡ true
early-so None since grace at waits less = absurd (cc (waits.0))
early-so (Some running) since grace at waits less = ap not (times-early running.request since grace at waits.1 less)

-- and one that is fed is not
due-so : (o : Option RunningRequest) (running : RunningRequest) (at : ℕ) → o ≡ Some running → IsTrue (is_due running.request at) → is_early o at ≡ false
due-so None running at e due = absurd (cc e)
due-so (Some other) running at e due =
    let same : other ≡ running = cc e in
    subst (λ (r : RunningRequest). not (is_due r.request at) ≡ false) (sym same) (ap not due)

pub fed-due : (old new : PassValue) (at : ℕ) (live : List (List ℕ)) → IsSamePass old new → SeesNext old (entry.Fed old.slot at live ∷ []) new → Lawful new.base new.seen → is_early (runs_in old) at ≡ false
unfolding Lawful cluster_at
fed-due old new at live same sees lawful =
    let base : new.base ≡ old.base = ap (λ (p : PassValue). p.base) same in
    let whole : Lawful old.base (entry.Fed old.slot at live ∷ (sees.between ++ old.seen)) = subst (λ b. Lawful b (entry.Fed old.slot at live ∷ (sees.between ++ old.seen))) base (subst (λ s. Lawful new.base s) sees.seen lawful) in
    let may : MayFeed (cluster_at old.base (sees.between ++ old.seen)) old.slot at live = whole.1 in
    due-so (runs_in old) may.running at (sym (runs-past old.base sees.between old.seen old.slot sees.others) ∙ may.runs) may.due
