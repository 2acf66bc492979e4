-- What a line is read as.
use Rattle.std.proofs.Common.{◌≡◌, ◌∙◌, ℕ, List, Option, Some, None, refl, sym}
use Rattle.std.specs.Prelude.{IfSome, Result}
use Rattle.ipam_records.specs.declared.call.Row.{Row}
use Rattle.ipam_model.specs.declared.entry.Entry.{Entry}
use Rattle.ipam_model.specs.Course.{Event}
use Rattle.ipam_cluster.specs.declared.cluster.Cluster.{Cluster}
use Rattle.ipam_answer_text.specs.declared.line.Line.{Line}
use Rattle.ipam_answer_text.specs.declared.line.Line.TheVariants as line
use Rattle.ipam_play.specs.declared.fault.PlayFault.{PlayFault}
use Rattle.ipam_play.specs.Events.{ComesOf}
use Rattle.ipam_play.specs.Script.{Gathered, Happens, events_of, place_of}

-- a line with events is not of the base
pub place-events : (base : Gathered) (asked : Line) (events : List Event) → events_of asked ≡ Some events → place_of base asked ≡ Happens events
place-events base (line.Row row) events e = cc
place-events base (line.Counter counter) events e = cc
place-events base (line.Begin slot request) events e = cc
place-events base (line.Turn slot count) events e = cc
place-events base (line.Fail slot) events e = cc
place-events base (line.Lose slot) events e = cc
place-events base (line.Feed slot at live) events e = cc
place-events base (line.Stop slot) events e = cc
place-events base line.Restart events e = cc

-- a line that is not of the base has events
pub some_events : (asked : Line) → ((row : Row) → asked ≡ line.Row row → ⊥) → ((counter : ℕ) → asked ≡ line.Counter counter → ⊥) → (events : List Event) × (events_of asked ≡ Some events)
some_events (line.Row row) no_row no_counter = absurd (no_row row refl)
some_events (line.Counter counter) no_row no_counter = absurd (no_counter counter refl)
some_events (line.Begin slot request) no_row no_counter = (_, refl)
some_events (line.Turn slot count) no_row no_counter = (_, refl)
some_events (line.Fail slot) no_row no_counter = (_, refl)
some_events (line.Lose slot) no_row no_counter = (_, refl)
some_events (line.Feed slot at live) no_row no_counter = (_, refl)
some_events (line.Stop slot) no_row no_counter = (_, refl)
some_events line.Restart no_row no_counter = (_, refl)

-- ---- what a line asks for

pub events_come : {T : Type 0} (result : Result T PlayFault) (old new : Cluster) (before after : List Entry) (found : Option (List Event)) (events : List Event) → found ≡ Some events
    → ComesOf result old new before after events → IfSome found (ComesOf result old new before after)
events_come result old new before after found events is h = rw is h

pub has_events : {P : Type 0} (found : Option (List Event)) (events : List Event) → found ≡ Some events → found ≡ None → P
has_events found events is none = absurd (cc (sym is ∙ none))
