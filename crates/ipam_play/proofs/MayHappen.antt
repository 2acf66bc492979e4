-- What may happen, and what is refused, by what is known of a cluster before memory is taken.
use Rattle.std.proofs.Common.{◌≡◌, ℕ, ◌<◌, ◌≤◌, ◌+◌, ◌^◌, arith, true, List, [], ◌∷◌, Option, Some, None, IsSome, refl, sym, ap, ◌∙◌, subst}
use Rattle.std.specs.Prelude.{Result, Ok, Err, IfErr, OnErr, OnOk, slice_index, if◌then◌else◌}
use Rattle.std.proofs.lemmas.Bool.{lt-ltb}
use Rattle.std.proofs.lemmas.Bool.Decides.{nat_tests}
use Rattle.ipam_collect.specs.declared.collect.Grace.{Grace}
use Rattle.ipam_records.specs.Datastore.{reply_of}
use Rattle.ipam_records.specs.Word.{Word, Ends, Asks, Waits, answer_in, next_call, waits}
use Rattle.ipam_model.specs.declared.answer.Answer.{Answer}
use Rattle.ipam_model.specs.declared.entry.Entry.{Entry}
use Rattle.ipam_model.specs.declared.entry.Entry.TheVariants as entry
use Rattle.ipam_model.specs.declared.entry.Fate.{Fate}
use Rattle.ipam_model.specs.declared.entry.SlotState.TheVariants as state
use Rattle.ipam_model.specs.declared.request.Request.{Request}
use Rattle.ipam_model.specs.Cluster as model
use Rattle.ipam_model.specs.Cluster.{call_entry, call_made}
use Rattle.ipam_model.specs.Course.{Begin, Turn, Feed, Stop, Busy, Idle, NotWaiting, TooSoon, Waiting, Worn, begin_entry, feed_entry, feed_waiting, is_due, most_entries, one, stop_entry, too_soon, turn_called, turn_entry, unless_worn}
use Rattle.ipam_model.specs.History.{Base, cluster_at}
use Rattle.ipam_cluster.specs.declared.running.Running.{Running}
use Rattle.ipam_cluster.specs.Running.{grace_of, is_over, running_rest}
use Rattle.ipam_cluster.proofs.StillLemmas.{waits_with}
use Rattle.ipam_cluster.specs.declared.cluster.Cluster.{Cluster}
use Rattle.ipam_cluster.specs.Cluster.{IsSlot, StandsFor, WaitsWith, slot_of_cluster, state_in}
use Rattle.ipam_cluster.proofs.Adding.{due_asked, none_there, runs_there, some_there}
use Rattle.ipam_cluster.proofs.Asking.{running_asks}
use Rattle.ipam_cluster.proofs.Events as cluster_events
use Rattle.ipam_cluster.proofs.Waiting.{is-waiting, not-idle}
use Rattle.ipam_play.specs.declared.cluster.OpenCluster.{OpenCluster}
use Rattle.ipam_play.specs.declared.fault.PlayFault.{PlayFault}
use Rattle.ipam_play.specs.declared.fault.PlayFault.TheVariants as fault
use Rattle.ipam_play.specs.Events.{IsToldBy, MayMake}
use Rattle.ipam_play.specs.Times.{StandsTimed}

-- ---- states

pub idle_slot : (code : Option Running) → state_in code ≡ state.Idle → code ≡ None
idle_slot None e = refl
idle_slot (Some running) e = absurd (not-idle (waits (running_rest running)) e)

pub some_slot : (code : Option Running) → (state_in code ≡ state.Idle → ⊥) → IsSome code
some_slot None never = absurd (never refl)
some_slot (Some running) never = refl

running_slot : (code : Option Running) → state_in code ≡ state.Running → (running : Running) × (code ≡ Some running)
running_slot None e = absurd (cc e)
running_slot (Some running) e = (running, refl)

-- what waits has its times
pub waiting_slot : (code : Option Running) → state_in code ≡ state.Waiting → (grace : Grace) × WaitsWith code grace
waiting_slot None e = absurd (cc e)
waiting_slot (Some running) e =
    let (grace, is) = waits_with running (is-waiting (waits (running_rest running)) e) in
    (grace, (e, is))

-- ---- what may happen

not-worn : (it : model.ClusterState) (new : Entry) → it.entries < 2 ^ 62 → one (unless_worn it new) ≡ Ok (new ∷ [])
not-worn it new few = ap (λ b. one (if b then Ok new else Err Worn)) (lt-ltb it.entries most_entries few)

few-there : (cluster : Cluster) (base : Base) (history : List Entry) → StandsFor cluster base history → cluster.entries < 2 ^ 62 → (cluster_at base history).entries < 2 ^ 62
few-there cluster base history h few = subst (λ (n : ℕ). n < 2 ^ 62) h.is_cluster.entries few

pub begin_may : (cluster : Cluster) (slot : ℕ) (request : Request) → state_in (slot_of_cluster cluster slot) ≡ state.Idle → cluster.entries < 2 ^ 62 → MayMake cluster [] (Begin slot request)
begin_may cluster slot request idle few = λ base history h.
    let it = cluster_at base history in
    let none = none_there (slot_of_cluster cluster slot) (it.slots slot) (h.is_cluster.slots slot) (idle_slot (slot_of_cluster cluster slot) idle) in (
      entry.Began slot request ∷ [],
      ap (λ o. one (begin_entry it slot request o)) none ∙ not-worn it (entry.Began slot request) (few-there cluster base history h few),
    )

called : (it : model.ClusterState) (slot : ℕ) (fate : Fate) (word : Word Answer) → IsSome (next_call word) → it.entries < 2 ^ 62
    → (more : List Entry) × (one (turn_called it (call_entry slot fate it.store it.entries word)) ≡ Ok more)
called it slot fate (Ends answer) asks few = absurd (cc asks)
called it slot fate (Asks label call next) asks few =
    let said = reply_of it.store call in
    let new = entry.Called (call_made slot fate call said (answer_in (next it.entries said))) in
    (new ∷ [], not-worn it new few)
called it slot fate (Waits next) asks few = absurd (cc asks)

pub turn_may : (cluster : Cluster) (slot : ℕ) (fate : Fate) → state_in (slot_of_cluster cluster slot) ≡ state.Running → cluster.entries < 2 ^ 62 → MayMake cluster [] (Turn slot fate)
turn_may cluster slot fate runs few = λ base history h.
    let it = cluster_at base history in
    let (running, held) = running_slot (slot_of_cluster cluster slot) runs in
    let found = runs_there (slot_of_cluster cluster slot) (it.slots slot) running (h.is_cluster.slots slot) held in
    let asks = running_asks (slot_of_cluster cluster slot) running held runs in
    let made = called it slot fate found.it.word (subst (λ (w : Word Answer). IsSome (next_call w)) found.runs.word asks) (few-there cluster base history h few) in
    (made.0, ap (λ o. one (turn_entry it slot fate o)) found.is ∙ made.1)

stopped : (slot : ℕ) (o : Option model.RunningRequest) → IsSome o → (more : List Entry) × (one (stop_entry slot o) ≡ Ok more)
stopped slot None some = absurd (cc some)
stopped slot (Some it) some = (entry.Stopped slot ∷ [], refl)

pub stop_may : (cluster : Cluster) (slot : ℕ) → (state_in (slot_of_cluster cluster slot) ≡ state.Idle → ⊥) → MayMake cluster [] (Stop slot)
stop_may cluster slot busy = λ base history h.
    stopped slot ((cluster_at base history).slots slot)
    (some_there (slot_of_cluster cluster slot) ((cluster_at base history).slots slot) (h.is_cluster.slots slot) (λ e. busy (ap state_in e)))

record WaitsThere (o : Option model.RunningRequest) (grace : Grace) : Type 0 where
  it : model.RunningRequest
  is : o ≡ Some it
  waiting : waits it.word ≡ true
  asked_for : grace_of it.request ≡ Some grace

waits_there : (code : Option Running) (o : Option model.RunningRequest) (grace : Grace) → IsSlot code o → WaitsWith code grace → WaitsThere o grace
waits_there None o grace is with = absurd (cc (with.0))
waits_there (Some running) None grace is with = absurd is
waits_there (Some running) (Some it) grace is with = record {
  it = it;
  is = refl;
  waiting = sym (ap waits is.word) ∙ is-waiting (waits (running_rest running)) with.0;
  asked_for = sym is.grace ∙ with.1;
}

late_enough : (request : Request) (grace : Grace) (at : ℕ) → grace_of request ≡ Some grace → grace.at + grace.grace ≤ at → is_due request at ≡ true
late_enough request grace at is late = sym (due_asked request at) ∙ ap (λ g. is_over g at) is ∙ over
  where
    over : is_over (Some grace) at ≡ true
    over = grind (arith, nat_tests)

pub feed_may : (opened : OpenCluster) (slot at : ℕ) (live : List (List ℕ)) → StandsTimed opened → state_in (slot_of_cluster opened.cluster slot) ≡ state.Waiting → slice_index opened.at slot + slice_index opened.grace slot ≤ at
    → opened.cluster.entries < 2 ^ 62 → MayMake opened.cluster [] (Feed slot at live)
feed_may opened slot at live stands waiting late few = λ base history h.
    let it = cluster_at base history in
    let (grace, with) = waiting_slot (slot_of_cluster opened.cluster slot) waiting in
    let times = stands.1 slot grace with.1 in
    let due : grace.at + grace.grace ≤ at = subst (λ (n : ℕ). n + grace.grace ≤ at) times.0 (subst (λ (n : ℕ). slice_index opened.at slot + n ≤ at) times.1 late) in
    let found = waits_there (slot_of_cluster opened.cluster slot) (it.slots slot) grace (h.is_cluster.slots slot) with in (
      entry.Fed slot at live ∷ [],
      ap (λ o. one (feed_entry it slot at live o)) found.is
          ∙ ap (λ b. one (if b then feed_waiting it slot at live found.it.request else Err NotWaiting)) found.waiting
          ∙ ap (λ b. one (if b then unless_worn it (entry.Fed slot at live) else Err (too_soon found.it.request))) (late_enough found.it.request grace at found.asked_for due)
          ∙ not-worn it (entry.Fed slot at live) (few-there opened.cluster base history h few),
    )

-- ---- what is refused

pub begin_told_busy : (cluster : Cluster) (slot : ℕ) (request : Request) → (state_in (slot_of_cluster cluster slot) ≡ state.Idle → ⊥) → IsToldBy cluster [] (Begin slot request) fault.Busy
begin_told_busy cluster slot request busy = record {
  refusal = Busy;
  is_told = refl;
  refuses = λ base history h. cluster_events.begin_busy cluster base history slot request h (some_slot (slot_of_cluster cluster slot) busy);
}

pub begin_told_worn : (cluster : Cluster) (slot : ℕ) (request : Request) (told : PlayFault) → told ≡ fault.Worn → state_in (slot_of_cluster cluster slot) ≡ state.Idle → 2 ^ 62 ≤ cluster.entries → IsToldBy cluster [] (Begin slot request) told
begin_told_worn cluster slot request told is idle many = record {
  refusal = Worn;
  is_told = is;
  refuses = λ base history h. cluster_events.begin_worn cluster base history slot request h (idle_slot (slot_of_cluster cluster slot) idle) many;
}

pub turn_told_idle : (cluster : Cluster) (slot : ℕ) (fate : Fate) → state_in (slot_of_cluster cluster slot) ≡ state.Idle → IsToldBy cluster [] (Turn slot fate) fault.Idle
turn_told_idle cluster slot fate idle = record {
  refusal = Idle;
  is_told = refl;
  refuses = λ base history h. cluster_events.turn_idle cluster base history slot fate h (idle_slot (slot_of_cluster cluster slot) idle);
}

pub turn_told_waiting : (cluster : Cluster) (slot : ℕ) (fate : Fate) → state_in (slot_of_cluster cluster slot) ≡ state.Waiting → IsToldBy cluster [] (Turn slot fate) fault.Waiting
turn_told_waiting cluster slot fate waiting = record {
  refusal = Waiting;
  is_told = refl;
  refuses = λ base history h. cluster_events.turn_waiting cluster base history slot fate h waiting;
}

pub turn_told_worn : (cluster : Cluster) (slot : ℕ) (fate : Fate) (told : PlayFault) → told ≡ fault.Worn → state_in (slot_of_cluster cluster slot) ≡ state.Running → 2 ^ 62 ≤ cluster.entries → IsToldBy cluster [] (Turn slot fate) told
turn_told_worn cluster slot fate told is runs many = record {
  refusal = Worn;
  is_told = is;
  refuses = λ base history h. cluster_events.turn_worn cluster base history slot fate h runs many;
}

pub stop_told_idle : (cluster : Cluster) (slot : ℕ) → state_in (slot_of_cluster cluster slot) ≡ state.Idle → IsToldBy cluster [] (Stop slot) fault.Idle
stop_told_idle cluster slot idle = record {
  refusal = Idle;
  is_told = refl;
  refuses = λ base history h. cluster_events.stop_idle cluster base history slot h (idle_slot (slot_of_cluster cluster slot) idle);
}

pub feed_told_not_waiting : (cluster : Cluster) (slot at : ℕ) (live : List (List ℕ)) → (state_in (slot_of_cluster cluster slot) ≡ state.Waiting → ⊥) → IsToldBy cluster [] (Feed slot at live) fault.NotWaiting
feed_told_not_waiting cluster slot at live other = record {
  refusal = NotWaiting;
  is_told = refl;
  refuses = λ base history h. cluster_events.feed_not_waiting cluster base history slot at live h other;
}

pub feed_told_soon : (opened : OpenCluster) (slot at : ℕ) (live : List (List ℕ)) → StandsTimed opened → state_in (slot_of_cluster opened.cluster slot) ≡ state.Waiting → at < slice_index opened.at slot + slice_index opened.grace slot
    → IsToldBy opened.cluster [] (Feed slot at live) fault.TooSoon
feed_told_soon opened slot at live stands waiting early =
    let (grace, with) = waiting_slot (slot_of_cluster opened.cluster slot) waiting in
    let times = stands.1 slot grace with.1 in
    let soon : at < grace.at + grace.grace = subst (λ (n : ℕ). at < n + grace.grace) times.0 (subst (λ (n : ℕ). at < slice_index opened.at slot + n) times.1 early) in
    record {
      refusal = TooSoon grace.at grace.grace;
      is_told = refl;
      refuses = λ base history h. cluster_events.feed_too_soon opened.cluster base history slot at live grace h with soon;
    }

pub feed_told_worn : (opened : OpenCluster) (slot at : ℕ) (live : List (List ℕ)) (told : PlayFault) → told ≡ fault.Worn → StandsTimed opened → state_in (slot_of_cluster opened.cluster slot) ≡ state.Waiting
    → slice_index opened.at slot + slice_index opened.grace slot ≤ at → 2 ^ 62 ≤ opened.cluster.entries → IsToldBy opened.cluster [] (Feed slot at live) told
feed_told_worn opened slot at live told is stands waiting late many =
    let (grace, with) = waiting_slot (slot_of_cluster opened.cluster slot) waiting in
    let times = stands.1 slot grace with.1 in
    let due : grace.at + grace.grace ≤ at = subst (λ (n : ℕ). n + grace.grace ≤ at) times.0 (subst (λ (n : ℕ). slice_index opened.at slot + n ≤ at) times.1 late) in
    record {
      refusal = Worn;
      is_told = is;
      refuses = λ base history h. cluster_events.feed_worn opened.cluster base history slot at live grace h with due many;
    }

-- ---- what is known of a test of the number of entries

pub on_ok : {T E P Q : Type 0} (r : Result T E) → (P → Q) → OnOk r P → OnOk r Q
on_ok (Ok done) leads h = leads h
on_ok (Err e) leads h = tt

pub on_worn : {T P : Type 0} (r : Result T PlayFault) (Q : PlayFault → Type 0) → IfErr r (λ told. told ≡ fault.Worn) → OnErr r P → ((told : PlayFault) → told ≡ fault.Worn → P → Q told) → IfErr r Q
on_worn (Ok done) Q is many leads = tt
on_worn (Err told) Q is many leads = leads told is many
