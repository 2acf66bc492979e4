-- What happens when one event follows another.
use Rattle.std.specs.Prelude.{ℕ, Bool, false, ◌+◌, ◌^◌, nat_lt, nat_le, is_some, List, [], ◌∷◌, ◌++◌, map, option_map, Option, Some, None, Result, Ok, Err, if◌then◌else◌}
use Rattle.std.specs.List.{filter, range_with_len}
use Rattle.ipam_records.specs.Word.{waits}
use Rattle.ipam_model.specs.declared.entry.Called.{Called}
use Rattle.ipam_model.specs.declared.entry.Entry.{Entry}
use Rattle.ipam_model.specs.declared.entry.Entry.TheVariants as entry
use Rattle.ipam_model.specs.declared.entry.Fate.{Fate}
use Rattle.ipam_model.specs.declared.limits.TheConstants.{SLOTS}
use Rattle.ipam_model.specs.declared.request.CollectRequest.{CollectRequest}
use Rattle.ipam_model.specs.declared.request.Request.{Request}
use Rattle.ipam_model.specs.declared.request.Request.TheVariants.{Collect}
use Rattle.ipam_model.specs.Cluster.{ClusterState, RunningRequest, Slots, call_entry, after}

-- how many slots there are, and how many entries a cluster may have for one more to be begun, fed
-- or called
abbrev pub slot_count : ℕ
slot_count = SLOTS

abbrev pub most_entries : ℕ
most_entries = 2 ^ 62

-- what happens to a cluster
pub data Event : Type 0 where
  Begin : (slot : ℕ) → Request → Event
  -- the slot's next call, with its fate
  Turn : (slot : ℕ) → Fate → Event
  -- the second list of a collection, and when it was made
  Feed : (slot at : ℕ) (live : List (List ℕ)) → Event
  Stop : (slot : ℕ) → Event
  -- every request is stopped, and the rows are opened again
  Restart : Event

-- why an event does not happen
pub data EventRefusal : Type 0 where
  Busy : EventRefusal
  Idle : EventRefusal
  Waiting : EventRefusal
  NotWaiting : EventRefusal
  -- the second list was made before the grace after the first was over
  TooSoon : (at grace : ℕ) → EventRefusal
  -- there were too many entries
  Worn : EventRefusal

abbrev pub unless_worn : ClusterState → Entry → Result Entry EventRefusal
unless_worn cluster new = if nat_lt cluster.entries most_entries then Ok new else Err Worn

abbrev pub begin_entry : ClusterState → (slot : ℕ) → Request → Option RunningRequest → Result Entry EventRefusal
begin_entry cluster slot request None = unless_worn cluster (entry.Began slot request)
begin_entry cluster slot request (Some running) = Err Busy

abbrev pub turn_called : ClusterState → Option Called → Result Entry EventRefusal
turn_called cluster None = Err Waiting
turn_called cluster (Some c) = unless_worn cluster (entry.Called c)

abbrev pub turn_entry : ClusterState → (slot : ℕ) → Fate → Option RunningRequest → Result Entry EventRefusal
turn_entry cluster slot fate None = Err Idle
turn_entry cluster slot fate (Some running) =
    turn_called cluster (call_entry slot fate cluster.store cluster.entries running.word)

-- when a collection's second list is due
abbrev pub due : CollectRequest → ℕ
due request = request.at + request.grace

-- whether a second list that was made at this time is not too early; only a collection has one
abbrev pub is_due : Request → (at : ℕ) → Bool
is_due (Collect request) at = nat_le (due request) at
is_due _ at = false

-- the refusal of a list that is too early
abbrev pub too_soon : Request → EventRefusal
too_soon (Collect request) = TooSoon request.at request.grace
too_soon _ = NotWaiting

abbrev pub feed_waiting : ClusterState → (slot at : ℕ) → List (List ℕ) → Request → Result Entry EventRefusal
feed_waiting cluster slot at live request =
    if is_due request at then unless_worn cluster (entry.Fed slot at live) else Err (too_soon request)

abbrev pub feed_entry : ClusterState → (slot at : ℕ) → List (List ℕ) → Option RunningRequest → Result Entry EventRefusal
feed_entry cluster slot at live None = Err NotWaiting
feed_entry cluster slot at live (Some running) =
    if waits running.word then feed_waiting cluster slot at live running.request else Err NotWaiting

abbrev pub stop_entry : (slot : ℕ) → Option RunningRequest → Result Entry EventRefusal
stop_entry slot None = Err Idle
stop_entry slot (Some running) = Ok (entry.Stopped slot)

abbrev pub one : Result Entry EventRefusal → Result (List Entry) EventRefusal
one (Ok new) = Ok (new ∷ [])
one (Err refusal) = Err refusal

-- the slots in which something runs, in their order
abbrev pub busy_slots : Slots → List ℕ
busy_slots slots = filter (λ slot. is_some (slots slot)) (range_with_len 0 slot_count)

-- the entries that the event makes, or why it does not happen
abbrev pub entries_of : ClusterState → Event → Result (List Entry) EventRefusal
entries_of cluster (Begin slot request) = one (begin_entry cluster slot request (cluster.slots slot))
entries_of cluster (Turn slot fate) = one (turn_entry cluster slot fate (cluster.slots slot))
entries_of cluster (Feed slot at live) = one (feed_entry cluster slot at live (cluster.slots slot))
entries_of cluster (Stop slot) = one (stop_entry slot (cluster.slots slot))
entries_of cluster Restart = Ok (map entry.Stopped (busy_slots cluster.slots))

-- the cluster after these entries, the oldest first
unfoldable pub after_all : ClusterState → List Entry → ClusterState
after_all cluster [] = cluster
after_all cluster (new ∷ rest) = after_all (after cluster new) rest

-- which event did not happen, by its place among the events, from 0 on, and why
pub record Refused : Type 0 where
  pub place : ℕ
  pub why : EventRefusal

-- what happened: the entries, the oldest first, and what stopped the events
pub record Course : Type 0 where
  pub entries : List Entry
  pub refused : Option Refused

-- what was refused, counted with one event more before it
abbrev pub one_later : Refused → Refused
one_later refused = record { place = refused.place + 1; why = refused.why }

-- the entries of the first event, and the course of the others
abbrev pub behind : List Entry → Course → Course
behind entries rest = record { entries = entries ++ rest.entries; refused = option_map one_later rest.refused }

abbrev pub refused_at_once : EventRefusal → Course
refused_at_once refusal = record { entries = []; refused = Some (record { place = 0; why = refusal }) }

-- The course of the events, up to the first that is refused.
unfoldable pub course : ClusterState → List Event → Course
course cluster [] = record { entries = []; refused = None }
course cluster (event ∷ events) =
    elim (entries_of cluster event) [
      | Ok entries ↦ behind entries (course (after_all cluster entries) events)
      | Err refusal ↦ refused_at_once refusal
    ]
