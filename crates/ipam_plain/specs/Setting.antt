-- What the runs have in common: bases, requests, events, and entries in short.
use Rattle.std.specs.Prelude.{◌≡◌, ℕ, ◌+◌, ◌-◌, zero, suc, true, false, List, [], ◌∷◌, length, map, slice_get, Option, Some, None, codes}
use Rattle.ipam_addr.specs.declared.address.Family.{Family}
use Rattle.ipam_addr.specs.declared.address.Family.TheVariants.{V4}
use Rattle.ipam_addr.specs.Shape.{AddrValue, CidrValue}
use Rattle.ipam_pool.specs.declared.pools.Mode.TheVariants.{Automatic}
use Rattle.ipam_pool.specs.declared.pools.Pool.{Pool}
use Rattle.ipam_select.specs.Formula.{every}
use Rattle.ipam_block.specs.declared.allocation.Allocation.{Allocation}
use Rattle.ipam_block.specs.declared.allocation.Attributes.{Attributes}
use Rattle.ipam_block.specs.declared.state.State.{State}
use Rattle.ipam_block.specs.declared.state.State.TheVariants.{Confirmed}
use Rattle.ipam_records.specs.declared.key.Key.{Key}
use Rattle.ipam_records.specs.declared.key.Key.TheVariants as key
use Rattle.ipam_records.specs.declared.key.Kind.TheVariants as kind
use Rattle.ipam_records.specs.declared.record.Record.{Record}
use Rattle.ipam_records.specs.declared.record.Record.TheVariants as record_of
use Rattle.ipam_records.specs.Datastore.{Datastore}
use Rattle.ipam_model.specs.declared.answer.Answer.{Answer}
use Rattle.ipam_model.specs.declared.answer.Answer.TheVariants as answer
use Rattle.ipam_model.specs.declared.answer.Scan.{Scan}
use Rattle.ipam_model.specs.declared.entry.CallName.{CallName}
use Rattle.ipam_model.specs.declared.entry.CallName.TheVariants as name
use Rattle.ipam_model.specs.declared.entry.Entry.{Entry}
use Rattle.ipam_model.specs.declared.entry.Entry.TheVariants as entry
use Rattle.ipam_model.specs.declared.entry.Fate.TheVariants.{Well}
use Rattle.ipam_model.specs.declared.entry.Told.{Told}
use Rattle.ipam_model.specs.declared.entry.Told.TheVariants as told
use Rattle.ipam_model.specs.declared.request.AddRequest.{AddRequest}
use Rattle.ipam_model.specs.declared.request.Request.{Request}
use Rattle.ipam_model.specs.declared.request.Request.TheVariants as request
use Rattle.ipam_model.specs.Course.{Event, Turn, EventRefusal, Refused, Course, course, after_all}
use Rattle.ipam_model.specs.History.{Base, start}
use Rattle.ipam_model.specs.Reads.{StoredRecord}

-- ---- addresses from 10.0.0.0 on

abbrev pub ten : ℕ
ten = 167772160

abbrev pub v4_range : (offset prefix : ℕ) → CidrValue
v4_range offset prefix = record { family = V4; base = ten + offset; prefix = prefix }

abbrev pub v4 : (offset : ℕ) → AddrValue
v4 offset = record { family = V4; number = ten + offset }

-- ---- records

-- a pool that gives to all that ask, on all nodes
abbrev pub pool : List ℕ → CidrValue → (size : ℕ) → Pool
pool called cidr size = record {
  name = called;
  cidr = cidr;
  size = size;
  disabled = false;
  mode = Automatic;
  selector = every;
}

abbrev pub recorded_to : List ℕ → Attributes
recorded_to id = record { handle = id; secondary = [] }

abbrev pub held : (ordinal : ℕ) (id : List ℕ) (stamp : ℕ) → Allocation
held ordinal id stamp = record { ordinal = ordinal; attributes = recorded_to id; stamp = stamp }

abbrev pub block_record : CidrValue → (node : Option (List ℕ)) → List Allocation → (queue : List ℕ) → (sequence : ℕ) → Record
block_record cidr node allocations queue sequence = record_of.Block (record {
  cidr = cidr;
  node = node;
  allocations = allocations;
  queue = queue;
  sequence = sequence;
})

abbrev pub affinity_of : (node : List ℕ) → CidrValue → State → Record
affinity_of node cidr state = record_of.Affinity (record { node = node; cidr = cidr; state = state })

-- a handle with a count of one block
abbrev pub handle_of : (id : List ℕ) → CidrValue → (count : ℕ) → Record
handle_of id cidr count = record_of.Handle (record { id = id; counts = (cidr, count) ∷ [] })

-- ---- bases

abbrev pub base_of : List StoredRecord → (counter : ℕ) → Base
base_of rows counter = record { store = record { rows = rows; counter = counter }; first = 0 }

-- the pool 10.0.0.0/29 in blocks of four
abbrev pub slot0 : CidrValue
slot0 = v4_range 0 30

abbrev pub slot1 : CidrValue
slot1 = v4_range 4 30

abbrev pub pool_row : StoredRecord
pool_row = (1, record_of.Pools (pool (codes "p") (v4_range 0 29) 30 ∷ []))

-- the pool without a block
abbrev pub bare_base : Base
bare_base = base_of (pool_row ∷ []) 1

abbrev pub queue4 : List ℕ
queue4 = 0 ∷ 1 ∷ 2 ∷ 3 ∷ []

-- the pool whose first block is confirmed to the node a and empty
abbrev pub ready_rows : List StoredRecord
ready_rows =
    pool_row
    ∷ (3, block_record slot0 (Some (codes "a")) [] queue4 0)
    ∷ (2, affinity_of (codes "a") slot0 Confirmed)
    ∷ []

abbrev pub ready_base : Base
ready_base = base_of ready_rows 3

-- the ready block, whose first address is held by n.c1
abbrev pub held_base : Base
held_base = base_of
    (pool_row
    ∷ (3, block_record slot0 (Some (codes "a")) (held 0 (codes "n.c1") 1 ∷ []) (1 ∷ 2 ∷ 3 ∷ []) 1)
    ∷ (2, affinity_of (codes "a") slot0 Confirmed)
    ∷ (4, handle_of (codes "n.c1") slot0 1)
    ∷ []) 4

-- ---- requests

abbrev pub add_request : (id node : List ℕ) → AddRequest
add_request id node = record {
  node = node;
  attributes = recorded_to id;
  ipv4 = true;
  ipv6 = false;
  labels = [];
  pools4 = [];
  pools6 = [];
}

abbrev pub add : (id node : List ℕ) → Request
add id node = request.Add (add_request id node)

abbrev pub add_this : (id node : List ℕ) → AddrValue → Request
add_this id node address = request.AddThis (add_request id node) address

-- ---- events

-- so many calls of the slot
unfoldable pub turns : (slot many : ℕ) → List Event
turns slot zero = []
turns slot (suc many) = Turn slot Well ∷ turns slot many

-- ---- entries

abbrev pub did : (slot : ℕ) → CallName → Told → Option Record → Option Answer → Entry
did slot asked reply written answer = entry.Called (record {
  slot = slot;
  call = asked;
  fate = Well;
  reply = reply;
  written = written;
  answer = answer;
})

-- a call that wrote nothing and was not the last
abbrev pub did_read : (slot : ℕ) → CallName → Told → Entry
did_read slot asked reply = did slot asked reply None None

abbrev pub get_block : (slot : ℕ) → CidrValue → Told → Entry
get_block slot cidr reply = did_read slot (name.Get (key.Block cidr)) reply

abbrev pub get_affinity : (slot : ℕ) → (node : List ℕ) → CidrValue → Told → Entry
get_affinity slot node cidr reply = did_read slot (name.Get (key.Affinity node cidr)) reply

abbrev pub get_handle : (slot : ℕ) → (id : List ℕ) → Told → Entry
get_handle slot id reply = did_read slot (name.Get (key.Handle id)) reply

-- a record was created, updated or deleted, which took this revision
abbrev pub created : (slot : ℕ) → Key → (revision : ℕ) → Record → Option Answer → Entry
created slot new revision written answer =
    did slot (name.Create new) (told.Done revision) (Some written) answer

abbrev pub updated : (slot : ℕ) → Key → (seen revision : ℕ) → Record → Option Answer → Entry
updated slot old seen revision written answer =
    did slot (name.Update old seen) (told.Done revision) (Some written) answer

abbrev pub deleted : (slot : ℕ) → Key → (seen revision : ℕ) → Option Answer → Entry
deleted slot old seen revision answer = did slot (name.Delete old seen) (told.Done revision) None answer

-- the reads of a round up to an answer, where the pools are at revision 1 and nothing else is
-- configured
abbrev pub round_reads : (slot affinities blocks : ℕ) → Option Answer → List Entry
round_reads slot affinities blocks answer =
    did_read slot (name.Get key.Config) told.Missing
    ∷ did_read slot (name.Get key.Pools) (told.Found 1)
    ∷ did_read slot (name.Get key.Reservations) told.Missing
    ∷ did_read slot (name.List kind.Affinity) (told.Listed affinities)
    ∷ did slot (name.List kind.Block) (told.Listed blocks) None answer
    ∷ []

-- the five reads of a round that goes on
abbrev pub five_reads : (slot affinities blocks : ℕ) → List Entry
five_reads slot affinities blocks = round_reads slot affinities blocks None

-- the reads of an ADD of one address, where the pools are at revision 1
abbrev pub three_reads : (slot : ℕ) → (config : Told) → CidrValue → (block : Told) → Option Answer → List Entry
three_reads slot config cidr block answer =
    did_read slot (name.Get key.Config) config
    ∷ did_read slot (name.Get key.Pools) (told.Found 1)
    ∷ did slot (name.Get (key.Block cidr)) block None answer
    ∷ []

-- the first address of the ready block is given to n.c1
abbrev pub first_given : (slot : ℕ) → Option Answer → List Entry
first_given slot answer =
    get_handle slot (codes "n.c1") told.Missing
    ∷ created slot (key.Handle (codes "n.c1")) 4 (handle_of (codes "n.c1") slot0 1) None
    ∷ updated slot (key.Block slot0) 3 5
    (block_record slot0 (Some (codes "a")) (held 0 (codes "n.c1") 1 ∷ []) (1 ∷ 2 ∷ 3 ∷ []) 1) answer
    ∷ []

-- the first address of the block, which n.c1 holds, is freed, and the handle is deleted
abbrev pub first_freed : (slot : ℕ) → Answer → List Entry
first_freed slot answer =
    get_block slot slot0 (told.Found 5)
    ∷ updated slot (key.Block slot0) 5 6 (block_record slot0 (Some (codes "a")) [] (1 ∷ 2 ∷ 3 ∷ 0 ∷ []) 2) None
    ∷ get_handle slot (codes "n.c1") (told.Found 4)
    ∷ deleted slot (key.Handle (codes "n.c1")) 4 7 (Some answer)
    ∷ []

-- the second address of the block, which is at revision 3, is given to a handle that is created at
-- this revision
abbrev pub second_given : (slot : ℕ) → (id : List ℕ) → (revision : ℕ) → Answer → List Entry
second_given slot id revision answer =
    get_handle slot id told.Missing
    ∷ created slot (key.Handle id) revision (handle_of id slot0 1) None
    ∷ updated slot (key.Block slot0) 3 (revision + 1)
    (block_record slot0 (Some (codes "a")) (held 1 id 1 ∷ []) (0 ∷ 2 ∷ 3 ∷ []) 1) (Some answer)
    ∷ []

-- ---- answers

-- the five reads of a round that stand at the moment c and after it
abbrev pub scan_from : Family → (c : ℕ) → Scan
scan_from family c = record { family = family; c = c; p = c + 1; r = c + 2; f = c + 3; b = c + 4 }

-- the address was given by the reads from the moment c on, and written at w
abbrev pub given : AddrValue → (c w : ℕ) → Answer
given address c w = answer.Added
    (record { address = address; c = c; p = c + 1; r = c + 2; f = c + 3; b = c + 4; w = w } ∷ [])

-- the address that was asked for was given by the reads from the moment c on, and written at w
abbrev pub given_this : AddrValue → (c w : ℕ) → Answer
given_this address c w = answer.AddedThis
    (record { address = address; c = c; p = c + 1; b = c + 2; w = w })

-- ---- what happens

abbrev pub run : Base → List Event → Course
run base events = course (start base) events

-- the events are these entries, and none is refused
abbrev pub goes : Base → List Event → List Entry → Type 0
goes base events entries = run base events ≡ record { entries = entries; refused = None }

-- the events are these entries, and the last of them is refused so
abbrev pub stops : Base → List Event → List Entry → EventRefusal → Type 0
stops base events entries refusal = run base events ≡ record {
  entries = entries;
  refused = Some (record { place = length events - 1; why = refusal });
}

-- the datastore after the events
abbrev pub store_after_events : Base → List Event → Datastore
store_after_events base events = (after_all (start base) (run base events).entries).store

-- ---- a part of what happens, where it is long

-- the entries at some places, how many entries there are, and what stopped the events
pub record Excerpt : Type 0 where
  pub entries : List (Option Entry)
  pub count : ℕ
  pub refused : Option Refused

abbrev pub excerpt : (places : List ℕ) → Course → Excerpt
excerpt places all = record {
  entries = map (slice_get all.entries) places;
  count = length all.entries;
  refused = all.refused;
}
