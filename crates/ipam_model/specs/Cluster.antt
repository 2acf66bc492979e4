-- A cluster: the datastore, and the requests that run in its slots.
use Rattle.std.specs.Prelude.{ℕ, ◌+◌, ◌==◌, List, Option, Some, None, option_map, if◌then◌else◌}
use Rattle.ipam_records.specs.declared.record.Record.{Record}
use Rattle.ipam_records.specs.declared.call.Call.{Call}
use Rattle.ipam_records.specs.declared.call.Call.TheVariants as call
use Rattle.ipam_records.specs.declared.call.Write.{Write}
use Rattle.ipam_records.specs.Datastore.{Datastore, reply_of, write_of, written}
use Rattle.ipam_records.specs.Said.{Said, Can}
use Rattle.ipam_records.specs.Word.{Word, Ends, Asks, Waits, answer_in, after_feed, waits}
use Rattle.ipam_model.specs.declared.answer.Answer.{Answer}
use Rattle.ipam_model.specs.declared.answer.Answer.TheVariants.{Fault}
use Rattle.ipam_model.specs.declared.entry.CallName.{CallName}
use Rattle.ipam_model.specs.declared.entry.CallName.TheVariants as name
use Rattle.ipam_model.specs.declared.entry.Called.{Called}
use Rattle.ipam_model.specs.declared.entry.Entry.{Entry}
use Rattle.ipam_model.specs.declared.entry.Entry.TheVariants as entry
use Rattle.ipam_model.specs.declared.entry.Fate.{Fate}
use Rattle.ipam_model.specs.declared.entry.Fate.TheVariants.{Well, Before, After}
use Rattle.ipam_model.specs.declared.entry.SlotState.{SlotState}
use Rattle.ipam_model.specs.declared.entry.SlotState.TheVariants as state
use Rattle.ipam_model.specs.declared.entry.Told.{Told}
use Rattle.ipam_model.specs.declared.entry.Told.TheVariants as told
use Rattle.ipam_model.specs.declared.request.Request.{Request}
use Rattle.ipam_model.specs.Named.{name_of, told_of}
use Rattle.ipam_model.specs.Requests.{word_of}

-- a request, and what is left of it
pub record RunningRequest : Type 0 where
  pub request : Request
  pub word : Word Answer

-- the datastore, how many entries there were, and what runs in each slot
pub record ClusterState : Type 0 where
  pub store : Datastore
  pub entries : ℕ
  pub slots : ℕ → Option RunningRequest

-- whether a request runs in the slot, and whether it waits
abbrev pub state_of : Option RunningRequest → SlotState
state_of None = state.Idle
state_of (Some running) = if waits running.word then state.Waiting else state.Running

abbrev pub Slots : Type 0
Slots = ℕ → Option RunningRequest

abbrev pub with_slot : ℕ → Option RunningRequest → Slots → Slots
with_slot slot running slots = λ other. if other == slot then running else slots other

-- ---- the entry of a call

-- the record that a call writes
abbrev pub new_record : Call → Option Record
new_record (call.Get key) = None
new_record (call.List kind) = None
new_record (call.Create new) = Some new
new_record (call.Update new revision) = Some new
new_record (call.Delete key revision) = None

-- the record that was written, where the write was granted
abbrev pub record_written : Call → Said → Option Record
record_written asked (Can revision) = new_record asked
record_written asked _ = None

-- By its fate a call is done and answered, fails before it is done, or fails after. A request whose
-- call fails is answered so.
abbrev pub call_made : (slot : ℕ) → Fate → Call → Said → Option Answer → Called
call_made slot Well asked reply answer = record {
  slot = slot;
  call = name_of asked;
  fate = Well;
  reply = told_of reply;
  written = record_written asked reply;
  answer = answer;
}
call_made slot After asked reply answer = record {
  slot = slot;
  call = name_of asked;
  fate = After;
  reply = told_of reply;
  written = record_written asked reply;
  answer = Some Fault;
}
call_made slot Before asked reply answer = record {
  slot = slot;
  call = name_of asked;
  fate = Before;
  reply = told.Nothing;
  written = None;
  answer = Some Fault;
}

-- the entry of the call that the word asks for, at this store and moment
abbrev pub call_entry : (slot : ℕ) → Fate → Datastore → (moment : ℕ) → Word Answer → Option Called
call_entry slot fate store moment (Ends answer) = None
call_entry slot fate store moment (Asks label asked next) =
    let reply = reply_of store asked in
    Some (call_made slot fate asked reply (answer_in (next moment reply)))
call_entry slot fate store moment (Waits next) = None

-- ---- what an entry makes of the cluster

-- the call that an entry tells of, with the record that it wrote
abbrev pub call_told : CallName → Option Record → Option Call
call_told (name.Get key) new = Some (call.Get key)
call_told (name.List kind) new = Some (call.List kind)
call_told (name.Create key) new = option_map call.Create new
call_told (name.Update key revision) new = option_map (λ written. call.Update written revision) new
call_told (name.Delete key revision) new = Some (call.Delete key revision)

-- the write of that call, where it was done
abbrev pub write_at : (revision : ℕ) → Option Call → Option Write
write_at revision None = None
write_at revision (Some asked) = write_of asked revision

abbrev pub write_told : CallName → Told → Option Record → Option Write
write_told asked (told.Done revision) new = write_at revision (call_told asked new)
write_told asked _ new = None

abbrev pub store_with : Option Write → Datastore → Datastore
store_with None store = store
store_with (Some write) store = written store write

abbrev pub store_after : Called → Datastore → Datastore
store_after c store = store_with (write_told c.call c.reply c.written) store

-- what is left of the word once its call is answered
abbrev pub word_after_reply : Datastore → (moment : ℕ) → Word Answer → Word Answer
word_after_reply store moment (Ends answer) = Ends answer
word_after_reply store moment (Asks label asked next) = next moment (reply_of store asked)
word_after_reply store moment (Waits next) = Waits next

-- an answer leaves the slot idle
abbrev pub goes_on : Datastore → (moment : ℕ) → Option Answer → Option RunningRequest → Option RunningRequest
goes_on store moment (Some answer) running = None
goes_on store moment None None = None
goes_on store moment None (Some running) =
    Some (record running { word = word_after_reply store moment running.word })

abbrev pub fresh_run : Request → Option RunningRequest
fresh_run request = Some (record { request = request; word = word_of request })

abbrev pub run_after_feed : List (List ℕ) → Option RunningRequest → Option RunningRequest
run_after_feed live None = None
run_after_feed live (Some running) = Some (record running { word = after_feed running.word live })

abbrev pub in_slot : (slot : ℕ) → Option RunningRequest → ClusterState → ClusterState
in_slot slot running cluster = record {
  store = cluster.store;
  entries = cluster.entries + 1;
  slots = with_slot slot running cluster.slots;
}

unfoldable pub after : ClusterState → Entry → ClusterState
after cluster (entry.Began slot request) = in_slot slot (fresh_run request) cluster
after cluster (entry.Fed slot at live) = in_slot slot (run_after_feed live (cluster.slots slot)) cluster
after cluster (entry.Stopped slot) = in_slot slot None cluster
after cluster (entry.Called c) = record {
  store = store_after c cluster.store;
  entries = cluster.entries + 1;
  slots = with_slot c.slot (goes_on cluster.store cluster.entries c.answer (cluster.slots c.slot)) cluster.slots;
}
