-- What comes of a script: entries, and how it ends.
use Rattle.std.specs.Prelude.{◌≡◌, ℕ, ◌-◌, nat_lt, List, [], ◌∷◌, ◌++◌, length, Option, Some, None, if◌then◌else◌}
use Rattle.std.specs.List.Sorted.{IsPermutation}
use Rattle.ipam_records.specs.declared.call.Row.{Row as RowText}
use Rattle.ipam_records.specs.Datastore.{Datastore}
use Rattle.ipam_model.specs.declared.entry.Entry.{Entry}
use Rattle.ipam_model.specs.Course.{Course, Event, EventRefusal, Busy, Idle, Waiting, NotWaiting, TooSoon, Worn, Refused, course}
use Rattle.ipam_model.specs.History.{Base, start}
use Rattle.ipam_model.specs.Opened.{AreByKey, IsRefusedBy, OpensAs, Texts}
use Rattle.ipam_play.specs.declared.refusal.LineRefusal.{LineRefusal}
use Rattle.ipam_play.specs.declared.refusal.LineRefusal.TheVariants as refusal
use Rattle.ipam_play.specs.Script.{Gathered, Script, ScriptStep, Stops, Ended, Broken}

-- how a script ends
pub data Ending : Type 0 where
  Whole : Ending
  -- the line of this number is refused
  LineRefused : (number : ℕ) → LineRefusal → Ending
  -- the base breaks a rule, first at this key
  NotOpened : (rule : ℕ) (about : List ℕ) → Ending

-- ---- the base

unfoldable pub greatest_of_base : List RowText → ℕ
greatest_of_base [] = 0
greatest_of_base (row ∷ rows) = if nat_lt (greatest_of_base rows) row.revision then row.revision else greatest_of_base rows

-- without a counter it is the greatest revision, or 0
abbrev pub counter_of : Gathered → ℕ
counter_of base = elim base.counter [ None ↦ greatest_of_base base.rows | Some counter ↦ counter ]

-- the rows are handed over by ascending key
pub record AreTextsOfBase (texts : Texts) (base : Gathered) : Type 0 where
  pub by_key : AreByKey texts.rows
  pub same_rows : IsPermutation base.rows texts.rows
  pub counter : texts.counter ≡ counter_of base

-- ---- events

unfoldable pub events_in : List ScriptStep → List Event
events_in [] = []
events_in (step ∷ steps) = step.events ++ events_in steps

-- the number of the line whose event has this place among the events
unfoldable pub line_number_of : List ScriptStep → (place : ℕ) → ℕ
line_number_of [] place = 0
line_number_of (step ∷ steps) place =
    if nat_lt place (length step.events) then step.number else line_number_of steps (place - length step.events)

abbrev pub line_refusal_of : EventRefusal → LineRefusal
line_refusal_of Busy = refusal.Busy
line_refusal_of Idle = refusal.Idle
line_refusal_of Waiting = refusal.Waiting
line_refusal_of NotWaiting = refusal.NotWaiting
line_refusal_of (TooSoon at grace) = refusal.TooSoon
line_refusal_of Worn = refusal.Worn

abbrev pub ending_of_stops : Stops → Ending
ending_of_stops Ended = Whole
ending_of_stops (Broken number why) = LineRefused number why

abbrev pub ending_of : Script → Option Refused → Ending
ending_of script None = ending_of_stops script.stops
ending_of script (Some refused) = LineRefused (line_number_of script.steps refused.place) (line_refusal_of refused.why)

-- the cluster's base: no entry was made before
abbrev pub base_of : Datastore → Base
base_of store = record { store = store; first = 0 }

-- what the script makes of an opened base
abbrev pub course_of : Script → Datastore → Course
course_of script store = course (start (base_of store)) (events_in script.steps)

-- The base is opened where an event comes, or where the script ends.
abbrev pub OpensBase : Script → Type 0
OpensBase script = (script.steps ≡ [] → script.stops ≡ Ended)

-- What comes of a script.
pub data IsPlayed (script : Script) : List Entry → Ending → Type 0 where
  -- a line of the base, or the first after it, is refused whatever the base is
  RefusedAtOnce : (number : ℕ) (why : LineRefusal) → script.steps ≡ [] → script.stops ≡ Broken number why
      → IsPlayed script [] (LineRefused number why)
  -- the base is refused
  BaseRefused : (texts : Texts) (rule : ℕ) (about : List ℕ) → OpensBase script → AreTextsOfBase texts script.base
      → IsRefusedBy texts rule about → IsPlayed script [] (NotOpened rule about)
  -- the events happen, up to the first that is refused
  Happened : (texts : Texts) (store : Datastore) → OpensBase script → AreTextsOfBase texts script.base → OpensAs texts store
      → IsPlayed script (course_of script store).entries (ending_of script (course_of script store).refused)
