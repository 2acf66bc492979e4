-- The course of some events is a lawful history, and a lawful history is the course of its own events.
use Rattle.std.specs.Prelude.{◌≡◌, ◌<◌, List, None, map, reverse}
use Rattle.std.specs.List.{All}
use Rattle.ipam_records.specs.Sound.{IsHandleId}
use Rattle.ipam_model.specs.declared.entry.Entry.{Entry}
use Rattle.ipam_model.specs.declared.entry.Entry.TheVariants as entry
use Rattle.ipam_model.specs.Course.{Event, Begin, Turn, Feed, Stop, Restart, course, slot_count}
use Rattle.ipam_model.specs.History.{Base, Lawful, start}
use Rattle.ipam_model.specs.SoundRequest.{IsSoundRequest}

-- the slot exists, and what is given is sound
abbrev pub IsEvent : Event → Type 0
IsEvent (Begin slot request) = (slot < slot_count) × IsSoundRequest request
IsEvent (Turn slot fate) = slot < slot_count
IsEvent (Feed slot at live) = (slot < slot_count) × All IsHandleId live
IsEvent (Stop slot) = slot < slot_count
IsEvent Restart = Unit {0}

-- histories have the newest entry first, and courses the oldest
abbrev pub CourseLaw : Type 0
CourseLaw =
    (base : Base) (events : List Event) → All IsEvent events
    → Lawful base (reverse (course (start base) events).entries)

-- the event that makes this entry
abbrev pub event_of : Entry → Event
event_of (entry.Began slot request) = Begin slot request
event_of (entry.Called c) = Turn c.slot c.fate
event_of (entry.Fed slot at live) = Feed slot at live
event_of (entry.Stopped slot) = Stop slot

abbrev pub HistoryLaw : Type 0
HistoryLaw =
    (base : Base) (history : List Entry) → Lawful base history
    → course (start base) (map event_of (reverse history)) ≡ record { entries = reverse history; refused = None }
