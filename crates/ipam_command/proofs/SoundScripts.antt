-- What the bytes of a script ask for is sound.
use Rattle.std.proofs.Common.{◌≡◌, ℕ, ◌+◌, Bool, true, false, cond, List, [], ◌∷◌, map, Option, Some, None, refl, subst}
use Rattle.std.specs.Prelude.{replicate, is_some, Ok, Err}
use Rattle.std.specs.List.{All}
use Rattle.std.proofs.lemmas.List.Elements.{All-append, All-from_recursion, All-nil, All-replicate}
use Rattle.ipam_model.specs.declared.entry.Fate.TheVariants.{Well, Before, After}
use Rattle.ipam_model.specs.Course.{Event, Begin, Turn, Feed, Stop, Restart}
use Rattle.ipam_model.specs.CourseLaw.{IsEvent}
use Rattle.ipam_answer_text.specs.declared.line.Line.{Line}
use Rattle.ipam_answer_text.specs.declared.line.Line.TheVariants as line
use Rattle.ipam_answer_text.specs.Lines.{ScriptLine, Whole, Long, lines_of}
use Rattle.ipam_answer_text.specs.Reading.{line_reading}
use Rattle.ipam_play.specs.declared.refusal.LineRefusal.TheVariants as refusal
use Rattle.ipam_play.specs.Played.{events_in}
use Rattle.ipam_play.specs.Readings.{LineReading, read_or_not, line_reading_of, readings}
use Rattle.ipam_play.specs.Script.{Stops, Ended, Broken, Gathered, LinePlace, OfBase, Again, Happens, Script, behind_step, events_of, nothing_gathered, place_of, rows_have_key, script_from, script_of, steps_from, stopped, with_base_row, with_counter}
use Rattle.ipam_play.specs.SoundLine.{IsSoundLine}
use Rattle.ipam_play.proofs.SoundLines.{reading_sound}

-- ---- readings

abbrev IsSoundReading : LineReading → Type 0
IsSoundReading (Ok line) = IsSoundLine line
IsSoundReading (Err why) = Unit {0}

AreSoundReadings : List LineReading → Type 0
AreSoundReadings [] = Unit {0}
AreSoundReadings (reading ∷ more) = IsSoundReading reading × AreSoundReadings more

text-sound : (bytes : List ℕ) (o : Option Line) → line_reading bytes ≡ o → IsSoundReading (read_or_not o)
text-sound bytes None e = tt
text-sound bytes (Some line) e = reading_sound bytes line e

line-sound : (l : ScriptLine) → IsSoundReading (line_reading_of l)
line-sound Long = tt
line-sound (Whole bytes) = text-sound bytes (line_reading bytes) refl

lines-sound : (lines : List ScriptLine) → AreSoundReadings (map line_reading_of lines)
unfolding AreSoundReadings
lines-sound [] = tt
lines-sound (l ∷ more) = (line-sound l, lines-sound more)

-- ---- events

one-event : (event : Event) (events : List Event) → IsEvent event → event ∷ [] ≡ events → All IsEvent events
one-event event events h e = subst (λ (es : List Event). All IsEvent es) e (All-from_recursion IsEvent (event ∷ []) (h, tt))

events-sound : (l : Line) (events : List Event) → IsSoundLine l → events_of l ≡ Some events → All IsEvent events
events-sound (line.Row row) events h e = absurd cc
events-sound (line.Counter counter) events h e = absurd cc
events-sound (line.Begin slot request) events h e = one-event (Begin slot request) events h cc
events-sound (line.Turn slot count) events h e =
    let is : replicate count (Turn slot Well) ≡ events = cc in
    subst (λ (es : List Event). All IsEvent es) is (All-replicate IsEvent count (Turn slot Well) h.0)
events-sound (line.Fail slot) events h e = one-event (Turn slot Before) events h cc
events-sound (line.Lose slot) events h e = one-event (Turn slot After) events h cc
events-sound (line.Feed slot at live) events h e = one-event (Feed slot at live) events h cc
events-sound (line.Stop slot) events h e = one-event (Stop slot) events h cc
events-sound line.Restart events h e = one-event Restart events tt cc

-- ---- scripts

AsksSound : Script → Type 0
AsksSound script = All IsEvent (events_in script.steps)

steps_next : (number : ℕ) → Gathered → List LineReading → Option (List Event) → Script
steps_next number base more o = elim o [
  | None ↦ stopped base (Broken number refusal.Base)
  | Some events ↦ behind_step (record { number = number; events = events }) (steps_from (number + 1) base more)
]

step-sound : (number : ℕ) (events : List Event) (rest : Script) → All IsEvent events → AsksSound rest → AsksSound (behind_step (record { number = number; events = events }) rest)
unfolding AsksSound events_in
step-sound number events rest one others = All-append IsEvent events (events_in rest.steps) one others

none-sound : (base : Gathered) (stops : Stops) → AsksSound (stopped base stops)
unfolding AsksSound events_in
none-sound base stops = All-nil IsEvent

steps-sound : (number : ℕ) (base : Gathered) (lines : List LineReading) → AreSoundReadings lines → AsksSound (steps_from number base lines)
unfolding steps_from steps_next AreSoundReadings
steps-sound number base [] h = none-sound base Ended
steps-sound number base (Err why ∷ more) h = none-sound base (Broken number why)
steps-sound number base (Ok l ∷ more) h = by (steps-sound (number + 1) base more h.1) (events_of l) refl
  where
    by : AsksSound (steps_from (number + 1) base more) → (o : Option (List Event)) → events_of l ≡ o → AsksSound (steps_next number base more o)
    by rest None e = none-sound base (Broken number refusal.Base)
    by rest (Some events) e = step-sound number events (steps_from (number + 1) base more) (events-sound l events h.0 e) rest

no-happening : (b : Bool) (longer : Gathered) (events : List Event) → cond b Again (OfBase longer) ≡ Happens events → ⊥
no-happening true longer events e = absurd cc
no-happening false longer events e = absurd cc

place-events : (base : Gathered) (l : Line) (events : List Event) → place_of base l ≡ Happens events → events_of l ≡ Some events
place-events base (line.Row row) events e = absurd (no-happening (rows_have_key row.key base.rows) (with_base_row row base) events e)
place-events base (line.Counter counter) events e = absurd (no-happening (is_some base.counter) (with_counter counter base) events e)
place-events base (line.Begin slot request) events e = cc
place-events base (line.Turn slot count) events e = cc
place-events base (line.Fail slot) events e = cc
place-events base (line.Lose slot) events e = cc
place-events base (line.Feed slot at live) events e = cc
place-events base (line.Stop slot) events e = cc
place-events base line.Restart events e = cc

script_next : (number : ℕ) → Gathered → List LineReading → LinePlace → Script
script_next number base more place = elim place [
  | OfBase longer ↦ script_from (number + 1) longer more
  | Again ↦ stopped base (Broken number refusal.Base)
  | Happens events ↦ behind_step (record { number = number; events = events }) (steps_from (number + 1) base more)
]

script-sound : (number : ℕ) (base : Gathered) (lines : List LineReading) → AreSoundReadings lines → AsksSound (script_from number base lines)
unfolding script_from script_next AreSoundReadings
script-sound number base [] h = none-sound base Ended
script-sound number base (Err why ∷ more) h = none-sound base (Broken number why)
script-sound number base (Ok l ∷ more) h = by (λ longer. script-sound (number + 1) longer more h.1) (place_of base l) refl
  where
    by : ((longer : Gathered) → AsksSound (script_from (number + 1) longer more)) → (place : LinePlace) → place_of base l ≡ place → AsksSound (script_next number base more place)
    by rest (OfBase longer) e = rest longer
    by rest Again e = none-sound base (Broken number refusal.Base)
    by rest (Happens events) e =
        step-sound number events (steps_from (number + 1) base more) (events-sound l events h.0 (place-events base l events e)) (steps-sound (number + 1) base more h.1)

-- all that the bytes of a script ask for is sound
pub script_asks_sound : (bytes : List ℕ) → All IsEvent (events_in (script_of (readings bytes)).steps)
unfolding AsksSound
script_asks_sound bytes = script-sound 1 nothing_gathered (readings bytes) (lines-sound (lines_of bytes))
