-- How many calls a request makes at most.
use Rattle.std.specs.Prelude.{◌≡◌, ◌≢◌, ℕ, ◌+◌, ◌*◌, ◌≤◌, List, ◌∷◌, ◌++◌, length, Some, false}
use Rattle.std.specs.List.{All}
use Rattle.ipam_addr.specs.Shape.{AddrValue, CidrValue}
use Rattle.ipam_records.specs.declared.call.Call.TheVariants.{Get, List as ListAll}
use Rattle.ipam_records.specs.declared.key.Key.TheVariants as key
use Rattle.ipam_records.specs.declared.key.Kind.TheVariants as kind
use Rattle.ipam_records.specs.Bound.{AtMost}
use Rattle.ipam_records.specs.Datastore.{reply_of}
use Rattle.ipam_records.specs.Said.{Said}
use Rattle.ipam_records.specs.Word.{after_reply, after_feed}
use Rattle.ipam_model.specs.declared.entry.Called.{Called}
use Rattle.ipam_model.specs.declared.entry.Entry.{Entry}
use Rattle.ipam_model.specs.declared.entry.Entry.TheVariants as entry
use Rattle.ipam_model.specs.declared.request.AddRequest.{AddRequest}
use Rattle.ipam_model.specs.declared.request.Admin.{Admin}
use Rattle.ipam_model.specs.declared.request.CollectRequest.{CollectRequest}
use Rattle.ipam_model.specs.declared.request.ProbeRequest.{ProbeRequest}
use Rattle.ipam_model.specs.declared.request.Request.{Request}
use Rattle.ipam_model.specs.declared.request.Request.TheVariants.{Add, AddThis, Del, Check, Release, Collect, Admin as Change, Probe}
use Rattle.ipam_model.specs.Cluster.{RunningRequest}
use Rattle.ipam_model.specs.History.{Base, Lawful, cluster_at, store_at, begins, slot_of_entry}
use Rattle.ipam_model.specs.Reads.{StoredRecord, handle_said, rows_said}
use Rattle.ipam_model.specs.Remove.{Leak, suspects, leaks}
use Rattle.ipam_model.specs.Requests.{word_of}
use Rattle.ipam_model.specs.Tries.{calls_of}

-- How many calls each request makes at most, whatever the replies are.
pub record BoundLaw : Type 0 where
  pub add : (request : AddRequest) → AtMost (word_of (Add request)) 2000
  pub add_this : (request : AddRequest) (address : AddrValue) → AtMost (word_of (AddThis request address)) 2000
  -- after the read of the handle, by the blocks that it has there
  pub del : (id : List ℕ) (moment : ℕ) (said : Said) → AtMost (after_reply (word_of (Del id)) moment said) (199 + 4 * length (handle_said id said).counts)
  pub check : (id : List ℕ) (addresses : List AddrValue) → AtMost (word_of (Check id addresses)) (1 + length addresses)
  pub release : (node : List ℕ) (cidr : CidrValue) → AtMost (word_of (Release node cidr)) 400
  pub admin : (request : Admin) → AtMost (word_of (Change request)) 200
  pub probe : (request : ProbeRequest) → AtMost (word_of (Probe request)) 10

-- a collection, after its second list, by what it is to free
abbrev pub CollectBoundLaw : Type 0
CollectBoundLaw =
    (request : CollectRequest) (b1 b2 : ℕ) (first second : Said) (live : List (List ℕ))
    → AtMost (after_reply (after_feed (after_reply (word_of (Collect request)) b1 first) live) b2 second)
    (198 + 4 * length (leaks (suspects request (rows_said first)) live (rows_said second)))

-- ---- over histories

-- no request begins in the slot
abbrev pub NoneBegins : (slot : ℕ) → List Entry → Type 0
NoneBegins slot later = All (λ new. begins slot new ≡ false) later

-- From any moment on, a request makes no more calls in its slot than what is left of it can make. What
-- comes later is in front, the newest first.
abbrev pub SpanBoundLaw : Type 0
SpanBoundLaw =
    (base : Base) (history later : List Entry) (slot : ℕ) (running : RunningRequest) (count : ℕ)
    → Lawful base (later ++ history) → (cluster_at base history).slots slot ≡ Some running
    → AtMost running.word count → NoneBegins slot later
    → length (calls_of slot later) ≤ count

-- Since a request began, there are no more calls in its slot than its word can make.
abbrev pub RequestCallsLaw : Type 0
RequestCallsLaw =
    (base : Base) (earlier later : List Entry) (slot : ℕ) (request : Request) (count : ℕ)
    → Lawful base (later ++ (entry.Began slot request ∷ earlier))
    → AtMost (word_of request) count → NoneBegins slot later
    → length (calls_of slot later) ≤ count

-- ---- a DEL and a collection, by what they have read

-- no entry of the slot
abbrev pub NothingOf : (slot : ℕ) → List Entry → Type 0
NothingOf slot between = All (λ new. slot_of_entry new ≢ slot) between

-- a DEL began, made its first call, which reads the handle, and then others; the newest is first
pub record DelSpan : Type 0 where
  pub base : Base
  pub earlier : List Entry
  pub id : List ℕ
  pub between : List Entry
  pub first : Called
  pub later : List Entry

-- the history up to the read, and the whole
abbrev pub before_read : DelSpan → List Entry
before_read del = del.between ++ entry.Began del.first.slot (Del del.id) ∷ del.earlier

abbrev pub whole_del : DelSpan → List Entry
whole_del del = del.later ++ entry.Called del.first ∷ before_read del

-- the handle's counts when it is read, one for each block
abbrev pub counts_read : DelSpan → List (CidrValue × ℕ)
counts_read del =
    (handle_said del.id (reply_of (store_at del.base (before_read del)) (Get (key.Handle del.id)))).counts

-- nothing else came in its slot up to the read, and no other request began there since
pub record IsDelSpan (del : DelSpan) : Type 0 where
  pub quiet : NothingOf del.first.slot del.between
  pub none_begins : NoneBegins del.first.slot del.later

-- it makes at most so many calls, by the blocks that the handle has at the read
abbrev pub DelCallsLaw : Type 0
DelCallsLaw =
    (del : DelSpan) → Lawful del.base (whole_del del) → IsDelSpan del
    → 1 + length (calls_of del.first.slot del.later) ≤ 200 + 4 * length (counts_read del)

-- a collection began, listed the blocks, was fed, listed them again, and then freed what leaks
pub record CollectSpan : Type 0 where
  pub base : Base
  pub earlier : List Entry
  pub request : CollectRequest
  pub to_first : List Entry
  pub first : Called
  pub to_fed : List Entry
  pub at : ℕ
  pub live : List (List ℕ)
  pub to_second : List Entry
  pub second : Called
  pub later : List Entry

abbrev pub before_first : CollectSpan → List Entry
before_first c = c.to_first ++ entry.Began c.first.slot (Collect c.request) ∷ c.earlier

abbrev pub before_fed : CollectSpan → List Entry
before_fed c = c.to_fed ++ entry.Called c.first ∷ before_first c

abbrev pub before_second : CollectSpan → List Entry
before_second c = c.to_second ++ entry.Fed c.first.slot c.at c.live ∷ before_fed c

abbrev pub whole_collect : CollectSpan → List Entry
whole_collect c = c.later ++ entry.Called c.second ∷ before_second c

-- the blocks as they are listed
abbrev pub rows_listed : Base → List Entry → List StoredRecord
rows_listed base history = rows_said (reply_of (store_at base history) (ListAll kind.Block))

-- what is kept at the second list, to be freed
abbrev pub kept_to_free : CollectSpan → List Leak
kept_to_free c =
    leaks (suspects c.request (rows_listed c.base (before_first c))) c.live (rows_listed c.base (before_second c))

-- nothing else came in its slot, and no other request began there since
pub record IsCollectSpan (c : CollectSpan) : Type 0 where
  pub same_slot : c.second.slot ≡ c.first.slot
  pub quiet_to_first : NothingOf c.first.slot c.to_first
  pub quiet_to_fed : NothingOf c.first.slot c.to_fed
  pub quiet_to_second : NothingOf c.first.slot c.to_second
  pub none_begins : NoneBegins c.first.slot c.later

-- it makes at most so many calls, by the leaks that it keeps at the second list
abbrev pub CollectCallsLaw : Type 0
CollectCallsLaw =
    (c : CollectSpan) → Lawful c.base (whole_collect c) → IsCollectSpan c
    → 2 + length (calls_of c.first.slot c.later) ≤ 200 + 4 * length (kept_to_free c)
