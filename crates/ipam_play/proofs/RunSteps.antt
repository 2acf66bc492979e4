-- What one line does to a script that is played.
use Rattle.std.proofs.Common.{◌≡◌, ℕ, suc, ◌+◌, Bool, true, false, cond, List, [], ◌∷◌, ◌++◌, length, Option, Some, None, refl, sym, ap, ◌∙◌, subst, arith, append-nil, inl, inr, ◌⊎◌}
use Rattle.std.specs.Prelude.{Result, Ok, Err, is_some}
use Rattle.std.proofs.lemmas.List.{length-append}
use Rattle.ipam_records.specs.Datastore.{Datastore}
use Rattle.ipam_model.specs.declared.entry.Entry.{Entry}
use Rattle.ipam_model.specs.Cluster as model
use Rattle.ipam_model.specs.Course.{Course, Event, EventRefusal, Busy, Idle, Waiting, NotWaiting, TooSoon, Worn, course, entries_of}
use Rattle.ipam_answer_text.specs.declared.line.Line.{Line}
use Rattle.ipam_answer_text.specs.declared.line.Line.TheVariants as line
use Rattle.ipam_play.specs.declared.fault.PlayFault.{PlayFault}
use Rattle.ipam_play.specs.declared.fault.PlayFault.TheVariants as fault
use Rattle.ipam_play.specs.declared.player.Player.{Player}
use Rattle.ipam_play.specs.declared.refusal.LineRefusal.TheVariants as refusal
use Rattle.ipam_play.specs.Events.{fault_of}
use Rattle.ipam_play.specs.Played.{BaseRefused, IsPlayed, LineRefused, NotOpened, RefusedAtOnce, ending_of_stops, line_refusal_of}
use Rattle.ipam_play.specs.Player.{AllHappened, HasHappened, IsCauseAtFirst, IsGatheredLine, IsGathering, IsPlayedLine, IsPlaying, IsRefusal, IsWanting, SomeHappened, cluster_of, journal_of}
use Rattle.ipam_play.specs.Readings.{LineReading}
use Rattle.ipam_play.specs.Script.{Again, Broken, Gathered, Happens, OfBase, LinePlace, Script, Stops, events_of, rows_have_key, place_of, script_from, steps_from, with_counter, with_base_row}
use Rattle.ipam_play.proofs.Happenings.{course-cons, course_from, course-nothing}
use Rattle.ipam_play.proofs.LineKinds.{place-events}
use Rattle.ipam_play.specs.declared.halt.Halt.{Halt}
use Rattle.ipam_play.specs.declared.halt.Halt.TheVariants as halt
use Rattle.ipam_play.specs.Halting.{halt_of}
use Rattle.ipam_play.specs.Outcome.{Follows, IsGatheringOn, IsNotRefused, IsPlayingOn, IsToCome, line_then}
use Rattle.ipam_play.proofs.Outcomes.{follows_event, follows_first, played_refused, played_stopped}

-- ---- one event

course-made : (cluster : model.ClusterState) (event : Event) (made : List Entry) → course cluster (event ∷ []) ≡ record { entries = made; refused = None } → entries_of cluster event ≡ Ok made
unfolding course_from course
course-made cluster event made is = by (entries_of cluster event) (sym (course-cons cluster event []) ∙ is)
  where
    by : (r : Result (List Entry) EventRefusal) → course_from cluster [] r ≡ record { entries = made; refused = None } → r ≡ Ok made
    by (Ok entries) e = ap Ok (sym (append-nil entries) ∙ ap (λ (c : Course). c.entries) e)
    by (Err why) e = absurd (cc (ap (λ (c : Course). c.refused) e))

refused-halts : (why : EventRefusal) → halt_of (fault_of why) ≡ halt.Refused (line_refusal_of why)
refused-halts Busy = refl
refused-halts Idle = refl
refused-halts Waiting = refl
refused-halts NotWaiting = refl
refused-halts (TooSoon at grace) = refl
refused-halts Worn = refl

-- how the script ends where it is not played on
abbrev pub IsEnded : Halt → Script → (past : List Entry) → (number : ℕ) → Type 0
IsEnded halt.Memory script past number = Unit {0}
IsEnded (halt.Refused why) script past number = IsPlayed script past (LineRefused number why)
IsEnded (halt.NotOpened rule about) script past number = IsPlayed script past (NotOpened rule about)
IsEnded halt.Write script past number = ⊥

-- the journal has what the event made, and the rest is to come
pub record IsStepped (script : Script) (player : Player) (past : List Entry) (rest : Script) : Type 0 where
  pub store : Datastore
  pub playing : IsPlaying player script.base store past
  pub follows : Follows script store (past ++ journal_of player) rest

abbrev pub IsSteppedOr : {T : Type 0} → Result T PlayFault → Script → Player → (past : List Entry) → (number : ℕ) → (rest : Script) → Type 0
IsSteppedOr (Ok done) script player past number rest = IsStepped script player past rest
IsSteppedOr (Err told) script player past number rest = IsEnded (halt_of told) script past number

memory-ends : (script : Script) (past : List Entry) (number : ℕ) (told : PlayFault) → told ≡ fault.Memory → IsEnded (halt_of told) script past number
memory-ends script past number told is = subst (λ (t : PlayFault). IsEnded (halt_of t) script past number) (sym is) tt

refusal-ends : (script : Script) (past : List Entry) (number : ℕ) (told : PlayFault) (why : EventRefusal) → told ≡ fault_of why → IsPlayed script past (LineRefused number (line_refusal_of why)) → IsEnded (halt_of told) script past number
refusal-ends script past number told why is played =
    subst (λ (h : Halt). IsEnded h script past number) (sym (ap halt_of is ∙ refused-halts why)) played

base-ends : (script : Script) (past : List Entry) (number : ℕ) (told : PlayFault) → told ≡ fault.Base → IsPlayed script past (LineRefused number refusal.Base) → IsEnded (halt_of told) script past number
base-ends script past number told is played = subst (λ (t : PlayFault). IsEnded (halt_of t) script past number) (sym is) played

single : (event next : Event) (first rest : List Event) → event ∷ [] ≡ first ++ next ∷ rest → (first ≡ []) × (event ≡ next)
single event next [] rest e = (refl, cc e)
single event next (f ∷ first) rest e = absurd (too-long (ap length e))
  where
    too-long : 1 ≡ suc (length (first ++ next ∷ rest)) → ⊥
    too-long k = let l = length-append first (next ∷ rest) in omega arith

-- ---- a line of one event, after the base

module _ (script : Script) (number : ℕ) (event : Event) (events : List Event) (rest : Script) where
  whole-rest : Script
  whole-rest = line_then number (event ∷ events) rest

  playing-steps : {T : Type 0} (result : Result T PlayFault) (old new : Player) (store : Datastore) (past : List Entry) → journal_of old ≡ [] → Follows script store past (line_then number (event ∷ events) rest)
      → IsPlaying new script.base store past → HasHappened result old new store past (event ∷ []) → IsSteppedOr result script new past number (line_then number events rest)
  playing-steps (Ok done) old new store past none follows playing has =
      let at : cluster_of store (past ++ journal_of old) ≡ cluster_of store past = ap (λ (l : List Entry). cluster_of store (past ++ l)) none ∙ ap (cluster_of store) (append-nil past) in
      let made = course-made (cluster_of store past) event has.made (ap (λ (c : model.ClusterState). course c (event ∷ [])) (sym at) ∙ has.made_by) in
      let kept : journal_of new ≡ has.made = has.added ∙ ap (λ (l : List Entry). l ++ has.made) none in
      record {
        store = store;
        playing = playing;
        follows = subst (λ (l : List Entry). Follows script store (past ++ l) (line_then number events rest)) (sym kept)
            (follows_event script store past number event events rest has.made follows made);
      }
  playing-steps (Err told) old new store past none follows playing has =
      let (first, same) = single event has.next has.first has.rest has.is_first in
      let nothing : has.made ≡ [] = ap (λ (c : Course). c.entries) (sym has.made_by ∙ ap (course (cluster_of store (past ++ journal_of old))) first ∙ course-nothing (cluster_of store (past ++ journal_of old))) in
      let empty : journal_of new ≡ [] = has.added ∙ ap (λ (l : List Entry). l ++ has.made) none ∙ nothing in
      by same empty has.cause
    where
      by : event ≡ has.next → journal_of new ≡ [] → IsWanting (cluster_of store (past ++ journal_of new)) has.next told ⊎ IsRefusal (cluster_of store (past ++ journal_of new)) has.next told → IsEnded (halt_of told) script past number
      by same empty (inl wanting) = memory-ends script past number told wanting.is_told
      by same empty (inr because) =
          let at : cluster_of store (past ++ journal_of new) ≡ cluster_of store past = ap (λ (l : List Entry). cluster_of store (past ++ l)) empty ∙ ap (cluster_of store) (append-nil past) in
          let refuses : entries_of (cluster_of store past) event ≡ Err because.refusal =
          ap (λ (c : model.ClusterState). entries_of c event) (sym at) ∙ ap (entries_of (cluster_of store (past ++ journal_of new))) same ∙ because.refuses in
          refusal-ends script past number told because.refusal because.is_told (played_refused script store past number event events rest because.refusal follows refuses)

  -- ---- a line of one event that opens the base

  first-steps : {T : Type 0} (result : Result T PlayFault) (new : Player) → line_then number (event ∷ events) rest ≡ script → IsGatheredLine result new script.base (Happens (event ∷ []))
      → IsSteppedOr result script new [] number (line_then number events rest)
  first-steps (Ok done) new is has =
      let follows = subst (λ (s : Script). Follows script has.store [] s) (sym is) (follows_first script rest has.store (record { number = number; events = event ∷ events }) (sym is) has.playing.opened) in
      record {
        store = has.store;
        playing = has.playing;
        follows = follows_event script has.store [] number event events rest (journal_of new) follows (course-made (cluster_of has.store []) event (journal_of new) has.made_by);
      }
  first-steps (Err told) new is has = by has.1
    where
      by : IsCauseAtFirst script.base (event ∷ []) told → IsEnded (halt_of told) script [] number
      by (inl memory) = memory-ends script [] number told memory
      by (inr (inl closed)) = subst (λ (t : PlayFault). IsEnded (halt_of t) script [] number) (sym closed.is_told)
          (BaseRefused closed.broken.texts closed.rule closed.about (λ none. absurd (cc (ap (λ (s : Script). s.steps) is, none))) closed.broken.are_texts closed.broken.refused)
      by (inr (inr refused)) =
          let same : event ≡ refused.next = cc refused.is_first in
          let follows = subst (λ (s : Script). Follows script refused.store [] s) (sym is) (follows_first script rest refused.store (record { number = number; events = event ∷ events }) (sym is) refused.opened) in
          refusal-ends script [] number told refused.refusal.refusal refused.refusal.is_told
          (played_refused script refused.store [] number event events rest refused.refusal.refusal follows (ap (entries_of (cluster_of refused.store [])) same ∙ refused.refusal.refuses))

-- ---- an event for which there is no memory

never-told : (why : EventRefusal) → fault_of why ≡ fault.Memory → ⊥
never-told Busy is = cc is
never-told Idle is = cc is
never-told Waiting is = cc is
never-told NotWaiting is = cc is
never-told (TooSoon at grace) is = cc is
never-told Worn is = cc is

memory-told : (told : PlayFault) → halt_of told ≡ halt.Memory → told ≡ fault.Memory
memory-told fault.Base is = absurd (cc is)
memory-told fault.Busy is = absurd (cc is)
memory-told fault.Idle is = absurd (cc is)
memory-told fault.Waiting is = absurd (cc is)
memory-told fault.NotWaiting is = absurd (cc is)
memory-told fault.TooSoon is = absurd (cc is)
memory-told fault.Worn is = absurd (cc is)
memory-told (fault.Open rule about) is = absurd (cc is)
memory-told fault.Memory is = refl

-- the one event did not happen, and would have
wanting-event : (told : PlayFault) (old new : Player) (store : Datastore) (past : List Entry) (event : Event) → told ≡ fault.Memory → SomeHappened old new store past (event ∷ []) told
    → (made : List Entry) × (entries_of (cluster_of store (past ++ journal_of old)) event ≡ Ok made)
wanting-event told old new store past event memory has =
    let (first, same) = single event has.next has.first has.rest has.is_first in
    let nothing : has.made ≡ [] = ap (λ (c : Course). c.entries) (sym has.made_by ∙ ap (course (cluster_of store (past ++ journal_of old))) first ∙ course-nothing (cluster_of store (past ++ journal_of old))) in
    by same (has.added ∙ ap (λ (l : List Entry). journal_of old ++ l) nothing ∙ append-nil (journal_of old)) has.cause
  where
    by : event ≡ has.next → journal_of new ≡ journal_of old → IsWanting (cluster_of store (past ++ journal_of new)) has.next told ⊎ IsRefusal (cluster_of store (past ++ journal_of new)) has.next told
        → (made : List Entry) × (entries_of (cluster_of store (past ++ journal_of old)) event ≡ Ok made)
    by same kept (inl want) = (
      want.would_make,
      ap (λ (l : List Entry). entries_of (cluster_of store (past ++ l)) event) (sym kept) ∙ ap (entries_of (cluster_of store (past ++ journal_of new))) same ∙ want.makes,
    )
    by same kept (inr because) = absurd (never-told because.refusal (sym because.is_told ∙ memory))

-- there was no memory for the event, or, once it had happened, for its line
pub wants_event : {T : Type 0} (result : Result T PlayFault) (old new : Player) (asked : Line) (event : Event) → events_of asked ≡ Some (event ∷ [])
    → ((base : Gathered) (store : Datastore) (past : List Entry) → IsPlaying old base store past → IsPlayedLine result old new store past (events_of asked))
    → ((told : PlayFault) → result ≡ Err told → halt_of told ≡ halt.Memory) → IsNotRefused old event
wants_event (Ok done) old new asked event is played memory base store past playing =
    let has : AllHappened old new store past (event ∷ []) = subst (λ (o : Option (List Event)). IsPlayedLine (Ok done) old new store past o) is (played base store past playing) in
    (has.made, course-made (cluster_of store (past ++ journal_of old)) event has.made has.made_by)
wants_event {T} (Err told) old new asked event is played memory base store past playing =
    wanting-event told old new store past event (memory-told told (memory told refl))
    (subst (λ (o : Option (List Event)). IsPlayedLine {T = T} (Err told) old new store past o) is (played base store past playing))

-- a line of one event
pub steps : {T : Type 0} (result : Result T PlayFault) (script : Script) (old new : Player) (asked : Line) (past : List Entry) (number : ℕ) (event : Event) (events : List Event) (rest : Script)
    → events_of asked ≡ Some (event ∷ [])
    → ((base : Gathered) → IsGathering old base → IsGatheredLine result new base (place_of base asked))
    → ((base : Gathered) (store : Datastore) (past : List Entry) → IsPlaying old base store past → IsPlayedLine result old new store past (events_of asked))
    → ((base : Gathered) (store : Datastore) (past : List Entry) → IsPlaying old base store past → IsPlaying new base store past)
    → IsToCome script old past (line_then number (event ∷ events) rest) → IsSteppedOr result script new past number (line_then number events rest)
steps result script old new asked past number event events rest is gathered played playing (inl on) =
    playing-steps script number event events rest result old new on.store past on.none_kept on.follows
    (playing script.base on.store past on.playing)
    (subst (λ (o : Option (List Event)). IsPlayedLine result old new on.store past o) is (played script.base on.store past on.playing))
steps result script old new asked past number event events rest is gathered played playing (inr un) =
    subst (λ (l : List Entry). IsSteppedOr result script new l number (line_then number events rest)) (sym un.nothing)
    (first-steps script number event events rest result new un.is_whole
    (subst (λ (p : LinePlace). IsGatheredLine result new script.base p) (place-events script.base asked (event ∷ []) is) (gathered script.base un.gathering)))

-- ---- a line of the base

-- the base is longer, and more lines are to come
abbrev pub IsLongerOr : {T : Type 0} → Result T PlayFault → Script → Player → (number : ℕ) → List LineReading → Type 0
IsLongerOr (Ok done) script player number more = IsGatheringOn script player (number + 1) more
IsLongerOr (Err told) script player number more = IsEnded (halt_of told) script [] number

place-base : (base : Gathered) (asked : Line) (events : List Event) → events_of asked ≡ None → place_of base asked ≡ Happens events → ⊥
place-base base (line.Row row) events none is = by (rows_have_key row.key base.rows) is
  where
    by : (b : Bool) → cond b Again (OfBase (with_base_row row base)) ≡ Happens events → ⊥
    by true e = cc e
    by false e = cc e
place-base base (line.Counter counter) events none is = by (is_some base.counter) is
  where
    by : (b : Bool) → cond b Again (OfBase (with_counter counter base)) ≡ Happens events → ⊥
    by true e = cc e
    by false e = cc e
place-base base (line.Begin slot request) events none is = cc none
place-base base (line.Turn slot count) events none is = cc none
place-base base (line.Fail slot) events none is = cc none
place-base base (line.Lose slot) events none is = cc none
place-base base (line.Feed slot at live) events none is = cc none
place-base base (line.Stop slot) events none is = cc none
place-base base line.Restart events none is = cc none

unfoldable pub script-place : (number : ℕ) (base : Gathered) (more : List LineReading) → LinePlace → Script
script-place number base more place = elim place [
  | OfBase longer ↦ script_from (number + 1) longer more
  | Again ↦ record { base = base; steps = []; stops = Broken number refusal.Base }
  | Happens events ↦ line_then number events (steps_from (number + 1) base more)
]

pub script-line : (number : ℕ) (base : Gathered) (asked : Line) (more : List LineReading) → script_from number base (Ok asked ∷ more) ≡ script-place number base more (place_of base asked)
unfolding script_from script-place
script-line number base asked more = refl

pub base_steps : {T : Type 0} (result : Result T PlayFault) (script : Script) (old new : Player) (asked : Line) (number : ℕ) (more : List LineReading)
    → events_of asked ≡ None
    → ((base : Gathered) → IsGathering old base → IsGatheredLine result new base (place_of base asked))
    → IsGatheringOn script old number (Ok asked ∷ more) → IsLongerOr result script new number more
unfolding script-place
base_steps result script old new asked number more none gathered on =
    by (place_of on.base asked) refl result (gathered on.base on.gathering)
  where
    by : {T : Type 0} (place : LinePlace) → place_of on.base asked ≡ place → (r : Result T PlayFault) → IsGatheredLine r new on.base place → IsLongerOr r script new number more
    by (OfBase longer) at (Ok done) has = record {
      base = longer;
      gathering = has;
      is_script = on.is_script ∙ script-line number on.base asked more ∙ ap (script-place number on.base more) at;
    }
    by (OfBase longer) at (Err told) has = memory-ends script [] number told has.1
    by Again at (Ok done) has = absurd has
    by Again at (Err told) has =
        let is : script ≡ record { base = on.base; steps = []; stops = Broken number refusal.Base } = on.is_script ∙ script-line number on.base asked more ∙ ap (script-place number on.base more) at in
        base-ends script [] number told has.1 (RefusedAtOnce number refusal.Base (ap (λ (s : Script). s.steps) is) (ap (λ (s : Script). s.stops) is))
    by (Happens events) at r has = absurd (place-base on.base asked events none at)

-- a line of the base comes too late
pub late_ends : {T : Type 0} (result : Result T PlayFault) (script : Script) (old new : Player) (asked : Line) (past : List Entry) (number : ℕ) (rest : Script)
    → events_of asked ≡ None
    → ((base : Gathered) (store : Datastore) (past : List Entry) → IsPlaying old base store past → IsPlayedLine result old new store past (events_of asked))
    → IsPlayingOn script old past rest → rest.steps ≡ [] → rest.stops ≡ Broken number refusal.Base
    → (told : PlayFault) × (result ≡ Err told) × IsEnded (halt_of told) script past number
late_ends result script old new asked past number rest none played on last stops =
    let late = subst (λ (o : Option (List Event)). IsPlayedLine result old new on.store past o) none (played script.base on.store past on.playing) in
    (fault.Base, late.is_told, subst (λ (s : Stops). IsPlayed script past (ending_of_stops s)) stops (played_stopped script on.store past rest on.follows last))
