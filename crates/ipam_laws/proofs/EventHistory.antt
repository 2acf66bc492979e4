-- Courses are lawful histories, and lawful histories are courses.
use Rattle.std.proofs.Common.{◌≡◌, ℕ, zero, suc, ◌+◌, ◌<◌, ◌≤◌, Bool, true, false, cond, List, [], ◌∷◌, ◌++◌, map, Option, Some, None, refl, sym, ap, ◌∙◌, subst, arith, nat_lt, ltb-true, eqb-true}
use Rattle.std.specs.Prelude.{◌==◌, is_some, reverse, IsTrue, IsSome, Result, Ok, Err}
use Rattle.std.specs.List.{All, filter, range_with_len}
use mathlib.Core.List.{reverse_aux}
use Rattle.std.proofs.lemmas.Bool.{lt-ltb}
use Rattle.std.proofs.lemmas.List.{reverse-reverse}
use Rattle.ipam_records.specs.Word.{Word, Ends, Asks, Waits, waits}
use Rattle.ipam_records.specs.Datastore.{Datastore}
use Rattle.ipam_model.specs.declared.answer.Answer.{Answer}
use Rattle.ipam_model.specs.declared.entry.Called.{Called}
use Rattle.ipam_model.specs.declared.entry.Entry.{Entry}
use Rattle.ipam_model.specs.declared.entry.Entry.TheVariants as entry
use Rattle.ipam_model.specs.declared.entry.Fate.{Fate}
use Rattle.ipam_model.specs.declared.entry.Fate.TheVariants.{Well, Before, After}
use Rattle.ipam_model.specs.declared.request.Request.{Request}
use Rattle.ipam_model.specs.Cluster.{ClusterState, RunningRequest, Slots, call_entry, after}
use Rattle.ipam_model.specs.Course.{Course, Event, Begin, Turn, Feed, Stop, Restart, EventRefusal, Worn, NotWaiting, one, unless_worn, begin_entry, turn_entry, turn_called, feed_entry, feed_waiting, is_due, too_soon, stop_entry, busy_slots, entries_of, after_all, behind, refused_at_once, course, most_entries, slot_count}
use Rattle.ipam_model.specs.CourseLaw.{IsEvent, CourseLaw, event_of, HistoryLaw}
use Rattle.ipam_model.specs.History.{Base, Lawful, cluster_at, start, MayCome, MayFeed, MayCall, MayStop}

-- ---- entries one after the other

-- the entries, the oldest first, may come after the history
unfoldable Comes : Base → List Entry → List Entry → Type 0
Comes base history [] = Unit {0}
Comes base history (new ∷ rest) = MayCome (cluster_at base history) new × Comes base (new ∷ history) rest

pushed-lawful : (base : Base) (rest history : List Entry) → Lawful base history → Comes base history rest → Lawful base (reverse_aux rest history)
unfolding Comes Lawful
pushed-lawful base [] history h c = h
pushed-lawful base (new ∷ rest) history h c = pushed-lawful base rest (new ∷ history) (h, c.0) c.1

lawful-first : (base : Base) (rest history : List Entry) → Lawful base (reverse_aux rest history) → Lawful base history
unfolding Lawful
lawful-first base [] history h = h
lawful-first base (new ∷ rest) history h = (lawful-first base rest (new ∷ history) h).0

pub pushed-cluster : (base : Base) (rest history : List Entry) → cluster_at base (reverse_aux rest history) ≡ after_all (cluster_at base history) rest
unfolding cluster_at after_all
pushed-cluster base [] history = refl
pushed-cluster base (new ∷ rest) history = pushed-cluster base rest (new ∷ history)

comes-append : (base : Base) (first second history : List Entry) → Comes base history first → Comes base (reverse_aux first history) second → Comes base history (first ++ second)
unfolding Comes
comes-append base [] second history c d = d
comes-append base (new ∷ first) second history c d = (c.0, comes-append base first second (new ∷ history) c.1 d)

-- ---- what an event makes may come

pub record IsOne (cluster : ClusterState) (new : Entry) (entries : List Entry) : Type 0 where
  pub is : entries ≡ new ∷ []
  pub not_worn : cluster.entries < most_entries

one-unless_worn : (cluster : ClusterState) (new : Entry) (entries : List Entry) → one (unless_worn cluster new) ≡ Ok entries → IsOne cluster new entries
one-unless_worn cluster new entries e = from (nat_lt cluster.entries most_entries) refl e
  where
    from : (b : Bool) → nat_lt cluster.entries most_entries ≡ b → one (cond b (Ok new) (Err Worn)) ≡ Ok entries → IsOne cluster new entries
    from true below f = record { is = cc; not_worn = ltb-true cluster.entries most_entries below }
    from false below f = cc

comes-one : (base : Base) (history : List Entry) (new : Entry) (entries : List Entry) → entries ≡ new ∷ [] → MayCome (cluster_at base history) new → Comes base history entries
unfolding Comes
comes-one base history new entries is may = subst (λ (es : List Entry). Comes base history es) (sym is) (may, tt)

begin-comes : (base : Base) (history : List Entry) (slot : ℕ) (request : Request) (entries : List Entry) → IsEvent (Begin slot request) → entries_of (cluster_at base history) (Begin slot request) ≡ Ok entries → Comes base history entries
begin-comes base history slot request entries sound e = from ((cluster_at base history).slots slot) refl e
  where
    from : (o : Option RunningRequest) → (cluster_at base history).slots slot ≡ o → one (begin_entry (cluster_at base history) slot request o) ≡ Ok entries → Comes base history entries
    from None idle f =
        let h = one-unless_worn (cluster_at base history) (entry.Began slot request) entries f in
        comes-one base history (entry.Began slot request) entries h.is (record {
          turn = record { slot_exists = sound.0; not_worn = h.not_worn };
          idle = idle;
          sound = sound.1;
        })
    from (Some running) idle f = cc

-- the entry of a call has the slot and the fate that it is made with
entry-slot : (slot : ℕ) (fate : Fate) (store : Datastore) (moment : ℕ) (word : Word Answer) (c : Called) → call_entry slot fate store moment word ≡ Some c → (slot ≡ c.slot) × (fate ≡ c.fate)
entry-slot slot fate store moment (Ends answer) c e = cc
entry-slot slot fate store moment (Waits next) c e = cc
entry-slot slot Well store moment (Asks label asked next) c e = (cc, cc)
entry-slot slot Before store moment (Asks label asked next) c e = (cc, cc)
entry-slot slot After store moment (Asks label asked next) c e = (cc, cc)

call-may : (cluster : ClusterState) (slot : ℕ) (fate : Fate) (running : RunningRequest) (c : Called) → slot < slot_count → cluster.entries < most_entries → cluster.slots slot ≡ Some running → call_entry slot fate cluster.store cluster.entries running.word ≡ Some c → MayCall cluster c
call-may cluster slot fate running c below not_worn runs e =
    let (same_slot, same_fate) = entry-slot slot fate cluster.store cluster.entries running.word c e in
    record {
      turn = record { slot_exists = subst (λ (s : ℕ). s < slot_count) same_slot below; not_worn = not_worn };
      running = running;
      runs = subst (λ (s : ℕ). cluster.slots s ≡ Some running) same_slot runs;
      is_called = subst (λ (f : Fate). call_entry c.slot f cluster.store cluster.entries running.word ≡ Some c) same_fate
          (subst (λ (s : ℕ). call_entry s fate cluster.store cluster.entries running.word ≡ Some c) same_slot e);
    }

turn-comes : (base : Base) (history : List Entry) (slot : ℕ) (fate : Fate) (entries : List Entry) → IsEvent (Turn slot fate) → entries_of (cluster_at base history) (Turn slot fate) ≡ Ok entries → Comes base history entries
turn-comes base history slot fate entries below e = from ((cluster_at base history).slots slot) refl e
  where
    made : (running : RunningRequest) → (cluster_at base history).slots slot ≡ Some running → (o : Option Called) → call_entry slot fate (cluster_at base history).store (cluster_at base history).entries running.word ≡ o → one (turn_called (cluster_at base history) o) ≡ Ok entries → Comes base history entries
    made running runs None is f = cc
    made running runs (Some c) is f =
        let h = one-unless_worn (cluster_at base history) (entry.Called c) entries f in
        comes-one base history (entry.Called c) entries h.is
        (call-may (cluster_at base history) slot fate running c below h.not_worn runs is)

    from : (o : Option RunningRequest) → (cluster_at base history).slots slot ≡ o → one (turn_entry (cluster_at base history) slot fate o) ≡ Ok entries → Comes base history entries
    from None idle f = cc
    from (Some running) runs f = made running runs (call_entry slot fate (cluster_at base history).store (cluster_at base history).entries running.word) refl f

feed-comes : (base : Base) (history : List Entry) (slot at : ℕ) (live : List (List ℕ)) (entries : List Entry) → IsEvent (Feed slot at live) → entries_of (cluster_at base history) (Feed slot at live) ≡ Ok entries → Comes base history entries
feed-comes base history slot at live entries sound e = from ((cluster_at base history).slots slot) refl e
  where
    timed : (running : RunningRequest) → (cluster_at base history).slots slot ≡ Some running → IsTrue (waits running.word) → (b : Bool) → is_due running.request at ≡ b
        → one (cond b (unless_worn (cluster_at base history) (entry.Fed slot at live)) (Err (too_soon running.request))) ≡ Ok entries → Comes base history entries
    timed running runs waiting true late f =
        let h = one-unless_worn (cluster_at base history) (entry.Fed slot at live) entries f in
        comes-one base history (entry.Fed slot at live) entries h.is (record {
          turn = record { slot_exists = sound.0; not_worn = h.not_worn };
          running = running;
          runs = runs;
          waiting = waiting;
          due = late;
          sound = sound.1;
        })
    timed running runs waiting false late f = cc

    fed : (running : RunningRequest) → (cluster_at base history).slots slot ≡ Some running → (b : Bool) → waits running.word ≡ b → one (cond b (feed_waiting (cluster_at base history) slot at live running.request) (Err NotWaiting)) ≡ Ok entries → Comes base history entries
    fed running runs true waiting f = timed running runs waiting (is_due running.request at) refl f
    fed running runs false waiting f = cc

    from : (o : Option RunningRequest) → (cluster_at base history).slots slot ≡ o → one (feed_entry (cluster_at base history) slot at live o) ≡ Ok entries → Comes base history entries
    from None idle f = cc
    from (Some running) runs f = fed running runs (waits running.word) refl f

stop-comes : (base : Base) (history : List Entry) (slot : ℕ) (entries : List Entry) → IsEvent (Stop slot) → entries_of (cluster_at base history) (Stop slot) ≡ Ok entries → Comes base history entries
stop-comes base history slot entries below e = from ((cluster_at base history).slots slot) refl e
  where
    from : (o : Option RunningRequest) → (cluster_at base history).slots slot ≡ o → one (stop_entry slot o) ≡ Ok entries → Comes base history entries
    from None idle f = cc
    from (Some running) runs f =
        let is : entries ≡ entry.Stopped slot ∷ [] = cc in
        let may : MayStop (cluster_at base history) slot = record { slot_exists = below; runs = ap is_some runs } in
        comes-one base history (entry.Stopped slot) entries is may

-- the stops of a restart, one slot after the other
stops-come : (base : Base) (slots : Slots) (many from : ℕ) (history : List Entry) → from + many ≤ slot_count → ((s : ℕ) → from ≤ s → (cluster_at base history).slots s ≡ slots s) → Comes base history (map entry.Stopped (filter (λ s. is_some (slots s)) (range_with_len from many)))
unfolding Comes cluster_at after
stops-come base slots zero from history below same = tt
stops-come base slots (suc many) from history below same =
    by (is_some (slots from)) refl
    (λ u. stops-come base slots many (from + 1) (entry.Stopped from ∷ history) (omega arith) (λ s above. apart s above (s == from) refl))
    (λ u. stops-come base slots many (from + 1) history (omega arith) (λ s above. same s (omega arith)))
  where
    apart : (s : ℕ) → from + 1 ≤ s → (b : Bool) → (s == from) ≡ b → cond b None ((cluster_at base history).slots s) ≡ slots s
    apart s above true e = absurd (omega (arith, eqb-true s from e))
    apart s above false e = same s (omega arith)

    rest : List ℕ
    rest = filter (λ s. is_some (slots s)) (range_with_len (from + 1) many)

    by : (b : Bool) → is_some (slots from) ≡ b → (Unit {0} → Comes base (entry.Stopped from ∷ history) (map entry.Stopped rest)) → (Unit {0} → Comes base history (map entry.Stopped rest))
        → Comes base history (map entry.Stopped (cond b (from ∷ rest) rest))
    by true busy stopped skipped =
        let may : MayStop (cluster_at base history) from = record { slot_exists = omega arith; runs = ap is_some (same from (omega arith)) ∙ busy } in
        (may, stopped tt)
    by false idle stopped skipped = skipped tt

event-comes : (base : Base) (history : List Entry) (event : Event) (entries : List Entry) → IsEvent event → entries_of (cluster_at base history) event ≡ Ok entries → Comes base history entries
event-comes base history (Begin slot request) entries is e = begin-comes base history slot request entries is e
event-comes base history (Turn slot fate) entries is e = turn-comes base history slot fate entries is e
event-comes base history (Feed slot at live) entries is e = feed-comes base history slot at live entries is e
event-comes base history (Stop slot) entries is e = stop-comes base history slot entries is e
event-comes base history Restart entries is e =
    let all : map entry.Stopped (busy_slots (cluster_at base history).slots) ≡ entries = cc in
    subst (λ (es : List Entry). Comes base history es) all
    (stops-come base (cluster_at base history).slots 64 0 history (omega arith) (λ s above. refl))

-- the course from the entries of its first event
course_next : ClusterState → List Event → Result (List Entry) EventRefusal → Course
course_next cluster events r = elim r [
  | Ok entries ↦ behind entries (course (after_all cluster entries) events)
  | Err refusal ↦ refused_at_once refusal
]

course-comes : (base : Base) (events : List Event) (history : List Entry) → All IsEvent events → Comes base history (course (cluster_at base history) events).entries
unfolding course course_next Comes
course-comes base [] history all = tt
course-comes base (event ∷ events) history all =
    (by (entries_of (cluster_at base history) event) refl
    (λ entries. course-comes base events (reverse_aux entries history) (λ n d within. all (suc n) d (omega arith))))
  where
    by : (r : Result (List Entry) EventRefusal) → entries_of (cluster_at base history) event ≡ r
        → ((entries : List Entry) → Comes base (reverse_aux entries history) (course (cluster_at base (reverse_aux entries history)) events).entries)
        → Comes base history (course_next (cluster_at base history) events r).entries
    by (Ok entries) e rest = comes-append base entries (course (after_all (cluster_at base history) entries) events).entries history (event-comes base history event entries (all zero event (omega arith)) e)
        (subst (λ (c : ClusterState). Comes base (reverse_aux entries history) (course c events).entries) (pushed-cluster base entries history) (rest entries))
    by (Err refusal) e rest = tt

pub courses_are_lawful : CourseLaw
unfolding Lawful cluster_at
courses_are_lawful base events all = pushed-lawful base (course (start base) events).entries [] tt (course-comes base events [] all)

-- ---- a lawful history is a course

unless_worn-new : (cluster : ClusterState) (new : Entry) → cluster.entries < most_entries → one (unless_worn cluster new) ≡ Ok (new ∷ [])
unless_worn-new cluster new below = ap (λ b. one (cond b (Ok new) (Err Worn))) (lt-ltb cluster.entries most_entries below)

call-event : (cluster : ClusterState) (c : Called) → MayCall cluster c → entries_of cluster (Turn c.slot c.fate) ≡ Ok (entry.Called c ∷ [])
call-event cluster c h =
    ap (λ o. one (turn_entry cluster c.slot c.fate o)) h.runs
    ∙ ap (λ o. one (turn_called cluster o)) h.is_called
    ∙ unless_worn-new cluster (entry.Called c) h.turn.not_worn

feed-event : (cluster : ClusterState) (slot at : ℕ) (live : List (List ℕ)) → MayFeed cluster slot at live → entries_of cluster (Feed slot at live) ≡ Ok (entry.Fed slot at live ∷ [])
feed-event cluster slot at live h =
    ap (λ o. one (feed_entry cluster slot at live o)) h.runs
    ∙ ap (λ b. one (cond b (feed_waiting cluster slot at live h.running.request) (Err NotWaiting))) h.waiting
    ∙ ap (λ b. one (cond b (unless_worn cluster (entry.Fed slot at live)) (Err (too_soon h.running.request)))) h.due
    ∙ unless_worn-new cluster (entry.Fed slot at live) h.turn.not_worn

stop-event : (cluster : ClusterState) (slot : ℕ) (o : Option RunningRequest) → cluster.slots slot ≡ o → IsSome o → one (stop_entry slot (cluster.slots slot)) ≡ Ok (entry.Stopped slot ∷ [])
stop-event cluster slot None is runs = cc
stop-event cluster slot (Some running) is runs = ap (λ o. one (stop_entry slot o)) is

pub entry-event : (cluster : ClusterState) (new : Entry) → MayCome cluster new → entries_of cluster (event_of new) ≡ Ok (new ∷ [])
entry-event cluster (entry.Began slot request) h = ap (λ o. one (begin_entry cluster slot request o)) h.idle ∙ unless_worn-new cluster (entry.Began slot request) h.turn.not_worn
entry-event cluster (entry.Called c) h = call-event cluster c h
entry-event cluster (entry.Fed slot at live) h = feed-event cluster slot at live h
entry-event cluster (entry.Stopped slot) h = stop-event cluster slot (cluster.slots slot) refl h.runs

of-history : (base : Base) (rest history : List Entry) → Lawful base (reverse_aux rest history) → course (cluster_at base history) (map event_of rest) ≡ record { entries = rest; refused = None }
unfolding course course_next Lawful cluster_at after_all
of-history base [] history h = refl
of-history base (new ∷ rest) history h =
    ap (λ r. course_next (cluster_at base history) (map event_of rest) r) (entry-event (cluster_at base history) new (lawful-first base rest (new ∷ history) h).1)
    ∙ ap (λ c. behind (new ∷ []) c) (of-history base rest (new ∷ history) h)

pub histories_are_courses : HistoryLaw
unfolding cluster_at
histories_are_courses base history h = of-history base (reverse history) [] (subst (λ (hs : List Entry). Lawful base hs) (sym (reverse-reverse history)) h)
