-- What an event makes of the cluster that a cluster stands for: the entry that was added, or the refusal.
use Rattle.std.proofs.Common.{◌≡◌, ℕ, ◌+◌, ◌^◌, ◌<◌, ◌≤◌, nat_lt, true, false, Bool, List, [], ◌∷◌, Option, Some, None, IsSome, refl, sym, ap, ◌∙◌, subst, arith, ltb-true, inl, inr}
use Rattle.std.specs.Prelude.{Ok, Err, Result, nat_le, if◌then◌else◌}
use Rattle.std.proofs.lemmas.Bool.{cases_Bool}
use Rattle.std.proofs.lemmas.Bool.Decides.{nat_tests}
use Rattle.ipam_laws.proofs.EventHistory.{entry-event}
use Rattle.ipam_records.specs.Datastore.{reply_of}
use Rattle.ipam_records.specs.Word.{Word, Ends, Asks, Waits, next_call, answer_in, waits}
use Rattle.ipam_model.specs.declared.answer.Answer.{Answer}
use Rattle.ipam_model.specs.declared.entry.Entry.{Entry}
use Rattle.ipam_model.specs.declared.entry.Entry.TheVariants as entry
use Rattle.ipam_model.specs.declared.entry.Fate.{Fate}
use Rattle.ipam_model.specs.declared.entry.SlotState.TheVariants as state
use Rattle.ipam_model.specs.declared.request.Request.{Request}
use Rattle.ipam_model.specs.declared.request.Request.TheVariants as request_of
use Rattle.ipam_model.specs.Cluster as model
use Rattle.ipam_model.specs.Cluster.{call_entry, call_made}
use Rattle.ipam_model.specs.Course.{Begin, Turn, Feed, Stop, EventRefusal, Busy, Idle, Waiting, NotWaiting, TooSoon, Worn, begin_entry, entries_of, feed_entry, feed_waiting, is_due, most_entries, one, stop_entry, too_soon, turn_called, turn_entry, unless_worn}
use Rattle.ipam_model.specs.CourseLaw.{event_of}
use Rattle.ipam_model.specs.History.{Base, Lawful, cluster_at}
use Rattle.ipam_collect.specs.declared.collect.Grace.{Grace}
use Rattle.ipam_cluster.specs.declared.running.Running.{Running}
use Rattle.ipam_cluster.specs.Running.{running_rest, running_grace, grace_of, is_over}
use Rattle.ipam_cluster.specs.declared.cluster.Cluster.{Cluster}
use Rattle.ipam_cluster.specs.Cluster.{slot_of_cluster, state_in, IsSlot, Runs, StandsFor, WaitsWith}
use Rattle.ipam_cluster.specs.Turns.{IsTurn}
use Rattle.ipam_cluster.proofs.Adding.{none_there, runs_there, due_asked}
use Rattle.ipam_cluster.proofs.Asking.{running_asks}
use Rattle.ipam_cluster.proofs.Waiting.{is-waiting}

-- ---- an entry was added

-- what is added is what its event makes
pub made : (cluster : Cluster) (base : Base) (history : List Entry) (new : Entry) → StandsFor cluster base (new ∷ history)
    → entries_of (cluster_at base history) (event_of new) ≡ Ok (new ∷ [])
unfolding Lawful
made cluster base history new h = entry-event (cluster_at base history) new h.stands.lawful.1

pub turn_made : (cluster : Cluster) (base : Base) (history : List Entry) (slot : ℕ) (fate : Fate) (new : Entry) → IsTurn slot fate new
    → StandsFor cluster base (new ∷ history) → entries_of (cluster_at base history) (Turn slot fate) ≡ Ok (new ∷ [])
turn_made cluster base history slot fate new turn h =
    let event : event_of new ≡ Turn slot fate =
    ap event_of turn.is_called ∙ ap (λ s. Turn s turn.told.fate) turn.own ∙ ap (λ f. Turn slot f) turn.has_fate in
    sym (ap (entries_of (cluster_at base history)) event) ∙ made cluster base history new h

-- ---- a refusal

is_worn : (it : model.ClusterState) (new : Entry) → 2 ^ 62 ≤ it.entries → one (unless_worn it new) ≡ Err Worn
is_worn it new many = elim (cases_Bool (nat_lt it.entries most_entries)) [
  | inl below ↦ let few = ltb-true it.entries most_entries below in absurd (omega arith)
  | inr over ↦ ap (λ b. one (if b then Ok new else Err Worn)) over
]

idle_there : (cluster : Cluster) (base : Base) (history : List Entry) (slot : ℕ) → StandsFor cluster base history
    → slot_of_cluster cluster slot ≡ None → (cluster_at base history).slots slot ≡ None
idle_there cluster base history slot h idle = none_there (slot_of_cluster cluster slot) ((cluster_at base history).slots slot) (h.is_cluster.slots slot) idle

worn_there : (cluster : Cluster) (base : Base) (history : List Entry) → StandsFor cluster base history
    → 2 ^ 62 ≤ cluster.entries → 2 ^ 62 ≤ (cluster_at base history).entries
worn_there cluster base history h many = subst (λ n. 2 ^ 62 ≤ n) h.is_cluster.entries many

-- ---- a request does not begin

pub begin_busy : (cluster : Cluster) (base : Base) (history : List Entry) (slot : ℕ) (request : Request) → StandsFor cluster base history
    → IsSome (slot_of_cluster cluster slot) → entries_of (cluster_at base history) (Begin slot request) ≡ Err Busy
begin_busy cluster base history slot request h some =
    by (slot_of_cluster cluster slot) ((cluster_at base history).slots slot) (h.is_cluster.slots slot) some
  where
    by : (code : Option Running) (o : Option model.RunningRequest) → IsSlot code o → IsSome code
        → one (begin_entry (cluster_at base history) slot request o) ≡ Err Busy
    by None o is held = absurd (cc held)
    by (Some running) None is held = absurd is
    by (Some running) (Some it) is held = refl

pub begin_worn : (cluster : Cluster) (base : Base) (history : List Entry) (slot : ℕ) (request : Request) → StandsFor cluster base history
    → slot_of_cluster cluster slot ≡ None → 2 ^ 62 ≤ cluster.entries → entries_of (cluster_at base history) (Begin slot request) ≡ Err Worn
begin_worn cluster base history slot request h idle many =
    ap (λ o. one (begin_entry (cluster_at base history) slot request o)) (idle_there cluster base history slot h idle)
    ∙ is_worn (cluster_at base history) (entry.Began slot request) (worn_there cluster base history h many)

pub stop_idle : (cluster : Cluster) (base : Base) (history : List Entry) (slot : ℕ) → StandsFor cluster base history
    → slot_of_cluster cluster slot ≡ None → entries_of (cluster_at base history) (Stop slot) ≡ Err Idle
stop_idle cluster base history slot h idle = ap (λ o. one (stop_entry slot o)) (idle_there cluster base history slot h idle)

-- ---- a call is not made

pub turn_idle : (cluster : Cluster) (base : Base) (history : List Entry) (slot : ℕ) (fate : Fate) → StandsFor cluster base history
    → slot_of_cluster cluster slot ≡ None → entries_of (cluster_at base history) (Turn slot fate) ≡ Err Idle
turn_idle cluster base history slot fate h idle =
    ap (λ o. one (turn_entry (cluster_at base history) slot fate o)) (idle_there cluster base history slot h idle)

waiting_word : (code : Option Running) → state_in code ≡ state.Waiting → (running : Running) × (code ≡ Some running) × (waits (running_rest running) ≡ true)
waiting_word None is = absurd (cc is)
waiting_word (Some running) is = (running, refl, is-waiting (waits (running_rest running)) is)

no_call : (cluster : model.ClusterState) (slot : ℕ) (fate : Fate) (word : Word Answer) → waits word ≡ true
    → one (turn_called cluster (call_entry slot fate cluster.store cluster.entries word)) ≡ Err Waiting
no_call cluster slot fate (Ends answer) waiting = absurd (cc waiting)
no_call cluster slot fate (Asks label call next) waiting = absurd (cc waiting)
no_call cluster slot fate (Waits next) waiting = refl

pub turn_waiting : (cluster : Cluster) (base : Base) (history : List Entry) (slot : ℕ) (fate : Fate) → StandsFor cluster base history
    → state_in (slot_of_cluster cluster slot) ≡ state.Waiting → entries_of (cluster_at base history) (Turn slot fate) ≡ Err Waiting
turn_waiting cluster base history slot fate h is =
    let (running, held, waiting) = waiting_word (slot_of_cluster cluster slot) is in
    let found = runs_there (slot_of_cluster cluster slot) ((cluster_at base history).slots slot) running (h.is_cluster.slots slot) held in
    ap (λ o. one (turn_entry (cluster_at base history) slot fate o)) found.is
    ∙ no_call (cluster_at base history) slot fate found.it.word (sym (ap waits found.runs.word) ∙ waiting)

running_there : (code : Option Running) → state_in code ≡ state.Running → (running : Running) × (code ≡ Some running)
running_there None is = absurd (cc is)
running_there (Some running) is = (running, refl)

worn_call : (cluster : model.ClusterState) (slot : ℕ) (fate : Fate) (word : Word Answer) → IsSome (next_call word) → 2 ^ 62 ≤ cluster.entries
    → one (turn_called cluster (call_entry slot fate cluster.store cluster.entries word)) ≡ Err Worn
worn_call cluster slot fate (Ends answer) asks many = absurd (cc asks)
worn_call cluster slot fate (Asks label call next) asks many =
    let said = reply_of cluster.store call in
    is_worn cluster (entry.Called (call_made slot fate call said (answer_in (next cluster.entries said)))) many
worn_call cluster slot fate (Waits next) asks many = absurd (cc asks)

pub turn_worn : (cluster : Cluster) (base : Base) (history : List Entry) (slot : ℕ) (fate : Fate) → StandsFor cluster base history
    → state_in (slot_of_cluster cluster slot) ≡ state.Running → 2 ^ 62 ≤ cluster.entries → entries_of (cluster_at base history) (Turn slot fate) ≡ Err Worn
turn_worn cluster base history slot fate h is many =
    let (running, held) = running_there (slot_of_cluster cluster slot) is in
    let found = runs_there (slot_of_cluster cluster slot) ((cluster_at base history).slots slot) running (h.is_cluster.slots slot) held in
    let asks = running_asks (slot_of_cluster cluster slot) running held is in
    ap (λ o. one (turn_entry (cluster_at base history) slot fate o)) found.is
    ∙ worn_call (cluster_at base history) slot fate found.it.word (subst (λ w. IsSome (next_call w)) found.runs.word asks)
    (worn_there cluster base history h many)

-- ---- a second list is not taken

pub feed_not_waiting : (cluster : Cluster) (base : Base) (history : List Entry) (slot at : ℕ) (live : List (List ℕ)) → StandsFor cluster base history
    → ¬ (state_in (slot_of_cluster cluster slot) ≡ state.Waiting) → entries_of (cluster_at base history) (Feed slot at live) ≡ Err NotWaiting
feed_not_waiting cluster base history slot at live h other =
    by (slot_of_cluster cluster slot) ((cluster_at base history).slots slot) (h.is_cluster.slots slot) other
  where
    tested : (it : model.RunningRequest) (b : Bool) → ¬ ((if b then state.Waiting else state.Running) ≡ state.Waiting)
        → one (if b then feed_waiting (cluster_at base history) slot at live it.request else Err NotWaiting) ≡ Err NotWaiting
    tested it true not = absurd (not refl)
    tested it false not = refl

    by : (code : Option Running) (o : Option model.RunningRequest) → IsSlot code o → ¬ (state_in code ≡ state.Waiting)
        → one (feed_entry (cluster_at base history) slot at live o) ≡ Err NotWaiting
    by None None is not = refl
    by None (Some it) is not = absurd is
    by (Some running) None is not = absurd is
    by (Some running) (Some it) is not =
        tested it (waits it.word) (subst (λ w. ¬ ((if waits w then state.Waiting else state.Running) ≡ state.Waiting)) is.word not)

-- a collection waits there, with this grace
record WaitsThere (o : Option model.RunningRequest) (grace : Grace) : Type 0 where
  it : model.RunningRequest
  is : o ≡ Some it
  waiting : waits it.word ≡ true
  asked_for : grace_of it.request ≡ Some grace

waits_there : (code : Option Running) (o : Option model.RunningRequest) (grace : Grace) → IsSlot code o → WaitsWith code grace → WaitsThere o grace
waits_there None o grace is with = absurd (cc (with.0))
waits_there (Some running) None grace is with = absurd is
waits_there (Some running) (Some it) grace is with = record {
  it = it;
  is = refl;
  waiting = sym (ap waits is.word) ∙ is-waiting (waits (running_rest running)) with.0;
  asked_for = sym is.grace ∙ with.1;
}

too_early : (request : Request) (grace : Grace) (at : ℕ) → grace_of request ≡ Some grace → at < grace.at + grace.grace
    → (is_due request at ≡ false) × (too_soon request ≡ TooSoon grace.at grace.grace)
too_early (request_of.Collect next_call) grace at is early =
    let same : record { at = next_call.at; grace = next_call.grace } ≡ grace = cc is in (
      grind (arith, nat_tests),
      ap (λ (g : Grace). TooSoon g.at g.grace) same,
    )
too_early (request_of.Add add) grace at is early = absurd (cc is)
too_early (request_of.AddThis add address) grace at is early = absurd (cc is)
too_early (request_of.Del id) grace at is early = absurd (cc is)
too_early (request_of.Check id addresses) grace at is early = absurd (cc is)
too_early (request_of.Release node cidr) grace at is early = absurd (cc is)
too_early (request_of.Admin change) grace at is early = absurd (cc is)
too_early (request_of.Probe probe) grace at is early = absurd (cc is)

pub feed_too_soon : (cluster : Cluster) (base : Base) (history : List Entry) (slot at : ℕ) (live : List (List ℕ)) (grace : Grace)
    → StandsFor cluster base history → WaitsWith (slot_of_cluster cluster slot) grace → at < grace.at + grace.grace
    → entries_of (cluster_at base history) (Feed slot at live) ≡ Err (TooSoon grace.at grace.grace)
feed_too_soon cluster base history slot at live grace h with early =
    let found = waits_there (slot_of_cluster cluster slot) ((cluster_at base history).slots slot) grace (h.is_cluster.slots slot) with in
    let (soon, why) = too_early found.it.request grace at found.asked_for early in
    ap (λ o. one (feed_entry (cluster_at base history) slot at live o)) found.is
    ∙ ap (λ b. one (if b then feed_waiting (cluster_at base history) slot at live found.it.request else Err NotWaiting)) found.waiting
    ∙ ap (λ b. one (if b then unless_worn (cluster_at base history) (entry.Fed slot at live) else Err (too_soon found.it.request))) soon
    ∙ ap (λ r. Err r) why

late_enough : (request : Request) (grace : Grace) (at : ℕ) → grace_of request ≡ Some grace → grace.at + grace.grace ≤ at → is_due request at ≡ true
late_enough request grace at is late = sym (due_asked request at) ∙ ap (λ g. is_over g at) is ∙ over
  where
    over : is_over (Some grace) at ≡ true
    over = grind (arith, nat_tests)

pub feed_worn : (cluster : Cluster) (base : Base) (history : List Entry) (slot at : ℕ) (live : List (List ℕ)) (grace : Grace)
    → StandsFor cluster base history → WaitsWith (slot_of_cluster cluster slot) grace → grace.at + grace.grace ≤ at → 2 ^ 62 ≤ cluster.entries
    → entries_of (cluster_at base history) (Feed slot at live) ≡ Err Worn
feed_worn cluster base history slot at live grace h with late many =
    let found = waits_there (slot_of_cluster cluster slot) ((cluster_at base history).slots slot) grace (h.is_cluster.slots slot) with in
    ap (λ o. one (feed_entry (cluster_at base history) slot at live o)) found.is
    ∙ ap (λ b. one (if b then feed_waiting (cluster_at base history) slot at live found.it.request else Err NotWaiting)) found.waiting
    ∙ ap (λ b. one (if b then unless_worn (cluster_at base history) (entry.Fed slot at live) else Err (too_soon found.it.request)))
    (late_enough found.it.request grace at found.asked_for late)
    ∙ is_worn (cluster_at base history) (entry.Fed slot at live) (worn_there cluster base history h many)
