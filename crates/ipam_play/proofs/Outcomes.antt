-- Step by step to what comes of a script.
use Rattle.std.proofs.Common.{◌≡◌, ℕ, suc, ◌+◌, ◌-◌, cond, nat_lt, List, [], ◌∷◌, ◌++◌, length, Option, Some, None, refl, sym, ap, ap₂, ◌∙◌, subst, arith, append_assoc, append-nil}
use Rattle.std.specs.Prelude.{Ok, Err, option_map}
use Rattle.std.proofs.lemmas.Bool.{le-ltb, lt-ltb}
use Rattle.std.proofs.lemmas.Bool.Decides.{nat_tests}
use Rattle.ipam_records.specs.Datastore.{Datastore}
use Rattle.ipam_model.specs.declared.entry.Entry.{Entry}
use Rattle.ipam_model.specs.Cluster as model
use Rattle.ipam_model.specs.Course.{Course, Event, EventRefusal, Refused, after_all, course, entries_of, one_later}
use Rattle.ipam_model.specs.History.{cluster_at}
use Rattle.ipam_play.specs.Events.{onto}
use Rattle.ipam_play.specs.Played.{Ending, LineRefused, IsPlayed, Happened, base_of, ending_of, ending_of_stops, events_in, line_number_of, line_refusal_of}
use Rattle.ipam_play.specs.Player.{IsBaseOpened, cluster_of}
use Rattle.ipam_play.specs.Script.{Ended, Script, ScriptStep, behind_step}
use Rattle.ipam_play.proofs.Happenings.{cluster-onto, course-cons, course_from, onto-append}
use Rattle.ipam_play.specs.Outcome.{Follows, Outcome, behind, line_then, outcome}

abbrev step_of : ℕ → List Event → ScriptStep
step_of number events = record { number = number; events = events }

outcome-same : (one other : Outcome) → one.entries ≡ other.entries → one.ending ≡ other.ending → one ≡ other
outcome-same one other e f = ap₂ (λ (entries : List Entry) (ending : Ending). record { entries = entries; ending = ending }) e f

-- the events of a script whose first line has this one
events-cons : (number : ℕ) (event : Event) (events : List Event) (rest : Script) → events_in (line_then number (event ∷ events) rest).steps ≡ event ∷ events_in (line_then number events rest).steps
unfolding events_in
events-cons number event events rest = refl

-- a refusal one event later is of the same line
line-later : (number place : ℕ) (event : Event) (events : List Event) (steps : List ScriptStep) → line_number_of (step_of number (event ∷ events) ∷ steps) (place + 1) ≡ line_number_of (step_of number events ∷ steps) place
unfolding line_number_of
line-later number place event events steps =
    ap (λ b. cond b number (line_number_of steps ((place + 1) - suc (length events)))) (same-test place (length events))
    ∙ ap (λ (n : ℕ). cond (nat_lt place (length events)) number (line_number_of steps n)) (same-rest place (length events))
  where
    same-test : (a b : ℕ) → nat_lt (a + 1) (suc b) ≡ nat_lt a b
    same-test a b = grind (arith, nat_tests)

    same-rest : (a b : ℕ) → (a + 1) - suc b ≡ a - b
    same-rest a b = omega arith

ending-later : (number : ℕ) (event : Event) (events : List Event) (rest : Script) (o : Option Refused) → ending_of (line_then number (event ∷ events) rest) (option_map one_later o) ≡ ending_of (line_then number events rest) o
ending-later number event events rest None = refl
ending-later number event events rest (Some refused) = ap (λ (n : ℕ). LineRefused n (line_refusal_of refused.why)) (line-later number refused.place event events rest.steps)

-- the first event of a line makes entries
pub outcome-event : (cluster : model.ClusterState) (number : ℕ) (event : Event) (events : List Event) (rest : Script) (made : List Entry) → entries_of cluster event ≡ Ok made
    → outcome cluster (line_then number (event ∷ events) rest) ≡ behind made (outcome (after_all cluster made) (line_then number events rest))
unfolding events_in course_from
outcome-event cluster number event events rest made is =
    let others = events_in (line_then number events rest).steps in
    let whole : course cluster (event ∷ others) ≡ record {
      entries = made ++ (course (after_all cluster made) others).entries;
      refused = option_map one_later (course (after_all cluster made) others).refused;
    } = course-cons cluster event others ∙ ap (course_from cluster others) is in
    outcome-same _ _
    (ap (λ (c : Course). c.entries) whole)
    (ap (λ (c : Course). ending_of (line_then number (event ∷ events) rest) c.refused) whole
    ∙ ending-later number event events rest (course (after_all cluster made) others).refused)

-- a line without events
pub outcome-nothing : (cluster : model.ClusterState) (number : ℕ) (rest : Script) → outcome cluster (line_then number [] rest) ≡ outcome cluster rest
unfolding events_in line_number_of
outcome-nothing cluster number rest = outcome-same _ _ refl (by (course cluster (events_in rest.steps)).refused)
  where
    none-before : (place : ℕ) → line_number_of (step_of number [] ∷ rest.steps) place ≡ line_number_of rest.steps place
    none-before place = ap (λ b. cond b number (line_number_of rest.steps (place - 0))) (le-ltb place 0 (omega arith)) ∙ ap (line_number_of rest.steps) (omega arith)

    by : (o : Option Refused) → ending_of (line_then number [] rest) o ≡ ending_of rest o
    by None = refl
    by (Some refused) = ap (λ (n : ℕ). LineRefused n (line_refusal_of refused.why)) (none-before refused.place)

first-line : (number : ℕ) (event : Event) (events : List Event) (steps : List ScriptStep) → line_number_of (step_of number (event ∷ events) ∷ steps) 0 ≡ number
unfolding line_number_of
first-line number event events steps = ap (λ b. cond b number (line_number_of steps (0 - suc (length events)))) (lt-ltb 0 (suc (length events)) (omega arith))

-- the first event of a line is refused
pub outcome-refused : (cluster : model.ClusterState) (number : ℕ) (event : Event) (events : List Event) (rest : Script) (why : EventRefusal) → entries_of cluster event ≡ Err why
    → outcome cluster (line_then number (event ∷ events) rest) ≡ record { entries = []; ending = LineRefused number (line_refusal_of why) }
unfolding events_in course_from
outcome-refused cluster number event events rest why is =
    let others = events_in (line_then number events rest).steps in
    let whole = course-cons cluster event others ∙ ap (course_from cluster others) is in
    outcome-same _ _
    (ap (λ (c : Course). c.entries) whole)
    (ap (λ (c : Course). ending_of (line_then number (event ∷ events) rest) c.refused) whole
    ∙ ap (λ (n : ℕ). LineRefused n (line_refusal_of why)) (first-line number event events rest.steps))

-- the script is at its end, or the line that comes is refused whatever the cluster is
pub outcome-stopped : (cluster : model.ClusterState) (rest : Script) → rest.steps ≡ [] → outcome cluster rest ≡ record { entries = []; ending = ending_of_stops rest.stops }
unfolding events_in course
outcome-stopped cluster rest none =
    ap (λ (steps : List ScriptStep). outcome cluster (record rest { steps = steps })) none

-- ---- the whole script

pub follows_event : (script : Script) (store : Datastore) (past : List Entry) (number : ℕ) (event : Event) (events : List Event) (rest : Script) (made : List Entry)
    → Follows script store past (line_then number (event ∷ events) rest) → entries_of (cluster_of store past) event ≡ Ok made
    → Follows script store (past ++ made) (line_then number events rest)
follows_event script store past number event events rest made h is = record {
  opens_base = h.opens_base;
  opened = h.opened;
  comes = h.comes
      ∙ ap (behind past) (outcome-event (cluster_of store past) number event events rest made is)
      ∙ ap (λ (c : model.ClusterState). behind past (behind made (outcome c (line_then number events rest)))) (sym (after store past made))
      ∙ together past made (outcome (cluster_of store (past ++ made)) (line_then number events rest));
}
  where
    after : (store : Datastore) (past made : List Entry) → cluster_of store (past ++ made) ≡ after_all (cluster_of store past) made
    after store past made = ap (cluster_at (base_of store)) (onto-append past made []) ∙ cluster-onto (base_of store) made (onto past [])

    together : (first second : List Entry) (coming : Outcome) → behind first (behind second coming) ≡ behind (first ++ second) coming
    together first second coming = outcome-same _ _ (sym (append_assoc first second coming.entries)) refl

pub follows_line : (script : Script) (store : Datastore) (past : List Entry) (number : ℕ) (rest : Script) → Follows script store past (line_then number [] rest) → Follows script store past rest
follows_line script store past number rest h = record {
  opens_base = h.opens_base;
  opened = h.opened;
  comes = h.comes ∙ ap (behind past) (outcome-nothing (cluster_of store past) number rest);
}

-- what comes of the script, where its outcome is known
pub played : (script : Script) (store : Datastore) (past : List Entry) (rest : Script) → Follows script store past rest
    → IsPlayed script (past ++ (outcome (cluster_of store past) rest).entries) (outcome (cluster_of store past) rest).ending
played script store past rest h =
    subst (λ (o : Outcome). IsPlayed script o.entries o.ending) h.comes
    (Happened h.opened.texts store h.opens_base h.opened.are_texts h.opened.opens)

pub played_refused : (script : Script) (store : Datastore) (past : List Entry) (number : ℕ) (event : Event) (events : List Event) (rest : Script) (why : EventRefusal)
    → Follows script store past (line_then number (event ∷ events) rest) → entries_of (cluster_of store past) event ≡ Err why
    → IsPlayed script past (LineRefused number (line_refusal_of why))
played_refused script store past number event events rest why h is =
    let whole = outcome-refused (cluster_of store past) number event events rest why is in
    subst (λ (entries : List Entry). IsPlayed script entries (LineRefused number (line_refusal_of why))) (append-nil past)
    (subst (λ (o : Outcome). IsPlayed script (past ++ o.entries) o.ending) whole (played script store past _ h))

pub played_stopped : (script : Script) (store : Datastore) (past : List Entry) (rest : Script) → Follows script store past rest → rest.steps ≡ []
    → IsPlayed script past (ending_of_stops rest.stops)
played_stopped script store past rest h none =
    let whole = outcome-stopped (cluster_of store past) rest none in
    subst (λ (entries : List Entry). IsPlayed script entries (ending_of_stops rest.stops)) (append-nil past)
    (subst (λ (o : Outcome). IsPlayed script (past ++ o.entries) o.ending) whole (played script store past _ h))

-- the base was opened where a line came
pub follows_first : (script rest : Script) (store : Datastore) (step : ScriptStep) → script ≡ behind_step step rest → IsBaseOpened script.base store → Follows script store [] script
unfolding cluster_at
follows_first script rest store step is opened = record {
  opens_base = λ none. absurd (cc (ap (λ (s : Script). s.steps) is, none));
  opened = opened;
  comes = outcome-same _ _ refl refl;
}

pub follows_end : (script : Script) (store : Datastore) → IsBaseOpened script.base store → script.stops ≡ Ended → Follows script store [] script
unfolding cluster_at
follows_end script store opened ended = record {
  opens_base = λ none. ended;
  opened = opened;
  comes = outcome-same _ _ refl refl;
}
