-- What the lines of a script ask for: the rows of a base, and what happens to a cluster that is opened
-- over them.
use Rattle.std.specs.Prelude.{ℕ, ◌+◌, Bool, bytes_eq, is_some, List, [], ◌∷◌, ◌++◌, replicate, Option, Some, None, Ok, Err, if◌then◌else◌}
use Rattle.std.specs.List.{list_any}
use Rattle.ipam_records.specs.declared.call.Row.{Row as RowText}
use Rattle.ipam_model.specs.declared.entry.Fate.TheVariants.{Well, Before, After}
use Rattle.ipam_model.specs.Course.{Event, Begin, Turn, Feed, Stop, Restart}
use Rattle.ipam_answer_text.specs.declared.line.Line.{Line}
use Rattle.ipam_answer_text.specs.declared.line.Line.TheVariants as line
use Rattle.ipam_play.specs.declared.refusal.LineRefusal.{LineRefusal}
use Rattle.ipam_play.specs.declared.refusal.LineRefusal.TheVariants as refusal
use Rattle.ipam_play.specs.Readings.{LineReading}

-- ---- the base

-- the rows that were given, in their order, and the counter
pub record Gathered : Type 0 where
  pub rows : List RowText
  pub counter : Option ℕ

abbrev pub nothing_gathered : Gathered
nothing_gathered = record { rows = []; counter = None }

abbrev pub rows_have_key : List ℕ → List RowText → Bool
rows_have_key key rows = list_any (λ (row : RowText). bytes_eq key row.key) rows

-- what was gathered, with one row more
abbrev pub with_base_row : RowText → Gathered → Gathered
with_base_row row base = record base { rows = base.rows ++ row ∷ [] }

-- what was gathered, with this counter
abbrev pub with_counter : ℕ → Gathered → Gathered
with_counter counter base = record base { counter = Some counter }

-- ---- lines

-- what a line does to a cluster; none where it is of the base
abbrev pub events_of : Line → Option (List Event)
events_of (line.Row row) = None
events_of (line.Counter counter) = None
events_of (line.Begin slot request) = Some (Begin slot request ∷ [])
events_of (line.Turn slot count) = Some (replicate count (Turn slot Well))
events_of (line.Fail slot) = Some (Turn slot Before ∷ [])
events_of (line.Lose slot) = Some (Turn slot After ∷ [])
events_of (line.Feed slot at live) = Some (Feed slot at live ∷ [])
events_of (line.Stop slot) = Some (Stop slot ∷ [])
events_of line.Restart = Some (Restart ∷ [])

-- what a line is after the lines of the base so far
pub data LinePlace : Type 0 where
  -- it is of the base, which is this with it
  OfBase : Gathered → LinePlace
  -- it was given before
  Again : LinePlace
  -- the base is opened, and this happens
  Happens : List Event → LinePlace

abbrev pub happening : Option (List Event) → LinePlace
happening None = Again
happening (Some events) = Happens events

abbrev pub place_of : Gathered → Line → LinePlace
place_of base (line.Row row) = if rows_have_key row.key base.rows then Again else OfBase (with_base_row row base)
place_of base (line.Counter counter) = if is_some base.counter then Again else OfBase (with_counter counter base)
place_of base other = happening (events_of other)

-- ---- scripts

-- a line after the base: its number, from 1 on, and what it does
pub record ScriptStep : Type 0 where
  pub number : ℕ
  pub events : List Event

-- why there is no further line
pub data Stops : Type 0 where
  -- the script ends
  Ended : Stops
  -- the line of this number is refused whatever the cluster is
  Broken : (number : ℕ) → LineRefusal → Stops

pub record Script : Type 0 where
  pub base : Gathered
  pub steps : List ScriptStep
  pub stops : Stops

abbrev pub stopped : Gathered → Stops → Script
stopped base stops = record { base = base; steps = []; stops = stops }

-- one step more, before the others
abbrev pub behind_step : ScriptStep → Script → Script
behind_step step script = record script { steps = step ∷ script.steps }

-- the script of lines after the base, from this number on
unfoldable pub steps_from : ℕ → Gathered → List LineReading → Script
steps_from number base [] = stopped base Ended
steps_from number base (Err why ∷ more) = stopped base (Broken number why)
steps_from number base (Ok line ∷ more) =
    elim (events_of line) [
      | None ↦ stopped base (Broken number refusal.Base)
      | Some events ↦ behind_step (record { number = number; events = events }) (steps_from (number + 1) base more)
    ]

-- the script of lines from this number on, after these lines of the base
unfoldable pub script_from : ℕ → Gathered → List LineReading → Script
script_from number base [] = stopped base Ended
script_from number base (Err why ∷ more) = stopped base (Broken number why)
script_from number base (Ok line ∷ more) =
    elim (place_of base line) [
      | OfBase longer ↦ script_from (number + 1) longer more
      | Again ↦ stopped base (Broken number refusal.Base)
      | Happens events ↦ behind_step (record { number = number; events = events }) (steps_from (number + 1) base more)
    ]

abbrev pub script_of : List LineReading → Script
script_of lines = script_from 1 nothing_gathered lines
