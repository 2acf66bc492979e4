-- Which histories there are: a base, and entries, the newest first.
use Rattle.std.specs.Prelude.{◌≡◌, ℕ, ◌+◌, ◌-◌, ◌<◌, ◌≤◌, List, [], ◌∷◌, length, drop, Option, Some, None, IsSome, IsTrue, Bool, false, if◌then◌else◌, ◌==◌}
use Rattle.std.specs.List.{All}
use Rattle.ipam_records.specs.declared.call.Call.{Call}
use Rattle.ipam_records.specs.Datastore.{Datastore, reply_of}
use Rattle.ipam_records.specs.Said.{Said}
use Rattle.ipam_records.specs.Sound.{IsHandleId}
use Rattle.ipam_records.specs.Word.{waits}
use Rattle.ipam_model.specs.declared.entry.Called.{Called}
use Rattle.ipam_model.specs.declared.entry.Entry.{Entry}
use Rattle.ipam_model.specs.declared.entry.Entry.TheVariants as entry
use Rattle.ipam_model.specs.declared.entry.Fate.TheVariants.{Well}
use Rattle.ipam_model.specs.declared.request.Request.{Request}
use Rattle.ipam_model.specs.Cluster.{ClusterState, RunningRequest, call_entry, after}
use Rattle.ipam_model.specs.Named.{name_of}
use Rattle.ipam_model.specs.Course.{slot_count, most_entries, is_due}
use Rattle.ipam_model.specs.SoundRequest.{IsSoundRequest}

-- the datastore with which a cluster begins, and how many entries there were before
pub record Base : Type 0 where
  pub store : Datastore
  pub first : ℕ

abbrev pub start : Base → ClusterState
start base = record { store = base.store; entries = base.first; slots = λ slot. None }

unfoldable pub cluster_at : Base → List Entry → ClusterState
cluster_at base [] = start base
cluster_at base (new ∷ history) = after (cluster_at base history) new

-- ---- what may come

-- there may be one more entry in this slot
pub record HasTurn (cluster : ClusterState) (slot : ℕ) : Type 0 where
  pub slot_exists : slot < slot_count
  pub not_worn : cluster.entries < most_entries

pub record MayBegin (cluster : ClusterState) (slot : ℕ) (request : Request) : Type 0 where
  pub turn : HasTurn cluster slot
  pub idle : cluster.slots slot ≡ None
  pub sound : IsSoundRequest request

-- the collection waits, the grace is over, and the second list has ids of handles
pub record MayFeed (cluster : ClusterState) (slot at : ℕ) (live : List (List ℕ)) : Type 0 where
  pub turn : HasTurn cluster slot
  pub running : RunningRequest
  pub runs : cluster.slots slot ≡ Some running
  pub waiting : IsTrue (waits running.word)
  pub due : IsTrue (is_due running.request at)
  pub sound : All IsHandleId live

-- the entry is that of the call that the slot's word asks for
pub record MayCall (cluster : ClusterState) (c : Called) : Type 0 where
  pub turn : HasTurn cluster c.slot
  pub running : RunningRequest
  pub runs : cluster.slots c.slot ≡ Some running
  pub is_called : call_entry c.slot c.fate cluster.store cluster.entries running.word ≡ Some c

pub record MayStop (cluster : ClusterState) (slot : ℕ) : Type 0 where
  pub slot_exists : slot < slot_count
  pub runs : IsSome (cluster.slots slot)

abbrev pub MayCome : ClusterState → Entry → Type 0
MayCome cluster (entry.Began slot request) = MayBegin cluster slot request
MayCome cluster (entry.Fed slot at live) = MayFeed cluster slot at live
MayCome cluster (entry.Called c) = MayCall cluster c
MayCome cluster (entry.Stopped slot) = MayStop cluster slot

-- each entry may come after those before it
unfoldable pub Lawful : Base → List Entry → Type 0
Lawful base [] = Unit {0}
Lawful base (new ∷ history) = Lawful base history × MayCome (cluster_at base history) new

-- ---- moments

-- the store after the entries
abbrev pub store_at : Base → List Entry → Datastore
store_at base history = (cluster_at base history).store

-- the moment of the next entry
abbrev pub moment_of : Base → List Entry → ℕ
moment_of base history = base.first + length history

-- the entries before a moment
abbrev pub before : Base → List Entry → ℕ → List Entry
before base history moment = drop (moment_of base history - moment) history

-- the store at a moment
abbrev pub store_before : Base → List Entry → ℕ → Datastore
store_before base history moment = store_at base (before base history moment)

abbrev pub newest_of : List Entry → Option Entry
newest_of [] = None
newest_of (new ∷ history) = Some new

-- the entry of a moment
abbrev pub entry_at : Base → List Entry → ℕ → Option Entry
entry_at base history moment = newest_of (before base history (moment + 1))

-- ---- spans

abbrev pub slot_of_entry : Entry → ℕ
slot_of_entry (entry.Began slot request) = slot
slot_of_entry (entry.Fed slot at live) = slot
slot_of_entry (entry.Called c) = c.slot
slot_of_entry (entry.Stopped slot) = slot

abbrev pub begins : ℕ → Entry → Bool
begins slot (entry.Began other request) = other == slot
begins slot _ = false

-- the entries since the last request of the slot began, with that beginning
unfoldable pub since_begin : ℕ → List Entry → List Entry
since_begin slot [] = []
since_begin slot (new ∷ history) = new ∷ (if begins slot new then [] else since_begin slot history)

-- the request that began last in the slot
abbrev pub begun_in : ℕ → List Entry → Option Request
begun_in slot [] = None
begun_in slot (entry.Began other request ∷ history) = if other == slot then Some request else begun_in slot history
begun_in slot (entry.Fed other at live ∷ history) = begun_in slot history
begun_in slot (entry.Called c ∷ history) = begun_in slot history
begun_in slot (entry.Stopped other ∷ history) = begun_in slot history

-- a slot of a history, of which the laws say what its last request has read and done so far
pub record RequestSpan : Type 0 where
  pub base : Base
  pub history : List Entry
  pub slot : ℕ

-- the span as it was before a moment
abbrev pub span_before : RequestSpan → ℕ → RequestSpan
span_before span moment = record span { history = before span.base span.history moment }

-- the store before a moment of it
abbrev pub seen_at : RequestSpan → ℕ → Datastore
seen_at span moment = store_before span.base span.history moment

-- the store after its history
abbrev pub seen_now : RequestSpan → Datastore
seen_now span = store_at span.base span.history

-- the moment of the history's next entry
abbrev pub now : RequestSpan → ℕ
now span = moment_of span.base span.history

-- the moment at which the request began
abbrev pub begin_moment : RequestSpan → ℕ
begin_moment span = now span - length (since_begin span.slot span.history)

-- the entry of this moment is one of the slot's since its last request began
pub record InSpan (span : RequestSpan) (moment : ℕ) (there : Entry) : Type 0 where
  pub since : begin_moment span ≤ moment
  pub before_now : moment < now span
  pub is_there : entry_at span.base span.history moment ≡ Some there
  pub own : slot_of_entry there ≡ span.slot

-- a call of the slot's request that was answered this
pub record HeardCall (span : RequestSpan) (moment : ℕ) (asked : Call) (reply : Said) : Type 0 where
  pub entry_of_call : Called
  pub in_span : InSpan span moment (entry.Called entry_of_call)
  pub well : entry_of_call.fate ≡ Well
  pub is_call : entry_of_call.call ≡ name_of asked
  pub is_reply : reply ≡ reply_of (seen_at span moment) asked
