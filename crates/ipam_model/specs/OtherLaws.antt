-- What the answers of the other requests say of the history.
use Rattle.std.specs.Prelude.{◌≡◌, ◌≢◌, ℕ, false, IsTrue, List, [], ◌∷◌, ◌++◌, Some, None, map, Contains, AllPairs, ◌↔◌, slice_get}
use Rattle.std.specs.List.{All}
use Rattle.ipam_addr.specs.declared.address.Family.{Family}
use Rattle.ipam_addr.specs.Holding.{Holds}
use Rattle.ipam_addr.specs.Shape.{AddrValue, CidrValue}
use Rattle.ipam_block.specs.Shape as block
use Rattle.ipam_block.specs.HandleOperations.{count_of}
use Rattle.ipam_pool.specs.declared.pools.Pool.{Pool}
use Rattle.ipam_pool.specs.Slots.{IsSlotOf}
use Rattle.ipam_records.specs.declared.call.Call.TheVariants.{Get}
use Rattle.ipam_block.specs.declared.state.State.TheVariants.{PendingDeletion}
use Rattle.ipam_records.specs.declared.key.Key.{Key}
use Rattle.ipam_records.specs.declared.key.Key.TheVariants as key
use Rattle.ipam_records.specs.declared.record.Record.{Record}
use Rattle.ipam_records.specs.declared.record.Record.TheVariants as record_of
use Rattle.ipam_records.specs.Said.{Said, Missing}
use Rattle.ipam_model.specs.declared.answer.Collected.{Collected}
use Rattle.ipam_model.specs.declared.answer.Item.{Item}
use Rattle.ipam_model.specs.declared.answer.Scan.{Scan}
use Rattle.ipam_model.specs.declared.choice.Choice.{Choice}
use Rattle.ipam_model.specs.declared.choice.Choice.TheVariants.{Nothing, NoPool}
use Rattle.ipam_model.specs.declared.entry.CallName.TheVariants as name
use Rattle.ipam_model.specs.declared.entry.Called.{Called}
use Rattle.ipam_model.specs.declared.entry.Entry.TheVariants as entry
use Rattle.ipam_model.specs.declared.entry.Told.TheVariants as told
use Rattle.ipam_model.specs.declared.request.Admin.{Admin}
use Rattle.ipam_model.specs.declared.request.CollectRequest.{CollectRequest}
use Rattle.ipam_model.specs.declared.request.ProbeRequest.{ProbeRequest}
use Rattle.ipam_model.specs.Admin.{Becomes, Refuses, admin_change, key_changed}
use Rattle.ipam_model.specs.Affinities.{affinity}
use Rattle.ipam_model.specs.Choice.{Seen, IsChoice}
use Rattle.ipam_model.specs.Counting.{most_count}
use Rattle.ipam_model.specs.Answered.{Answered, now_of, span_of}
use Rattle.ipam_model.specs.History.{begin_moment, seen_at, seen_now, InSpan, HeardCall}
use Rattle.ipam_model.specs.Look.{asked_of_probe, holds_at}
use Rattle.ipam_model.specs.Moments.{Has, Owns, LostInSpan, IsNext}
use Rattle.ipam_model.specs.OwnerLaw.{Collecting, IsLeak}
use Rattle.ipam_model.specs.Owners.{Owner, IsBefore}
use Rattle.ipam_model.specs.Reads.{handle_said, pools_said, block_said}
use Rattle.ipam_model.specs.Rounds.{HasScanned}
use Rattle.ipam_model.specs.Usable.{families_if, pool_of}

-- ---- DEL

-- the handle was read at the moment, and of what it owned then it owns nothing now
pub record IsDeleted (a : Answered) (id : List ℕ) (moment : ℕ) : Type 0 where
  pub found : Said
  pub read : HeardCall (span_of a) moment (Get (key.Handle id)) found
  pub gone : (o : Owner) → o.handle ≡ id → Owns (seen_at (span_of a) moment) o → ¬ (Owns (seen_now (span_of a)) o)

-- ---- collection

-- the owner that an item tells of
abbrev pub owner_in : Item → Owner
owner_in item = record { address = item.address; handle = item.handle; stamp = item.stamp }

-- the items are exactly the leaks, in their order, each marked as freed exactly where the collection
-- freed it, and no leak owns its address now
pub record IsCollectedRight (a : Answered) (request : CollectRequest) (collected : Collected) : Type 0 where
  pub went_by : Collecting (span_of a) request
  pub is_first : collected.b1 ≡ went_by.b1
  pub is_second : collected.b2 ≡ went_by.b2
  pub are_leaks : (o : Owner) → Contains (map owner_in collected.items) o ↔ IsLeak (span_of a) request went_by o
  pub in_order : AllPairs (λ (i j : Item). IsBefore i.address j.address) collected.items
  pub freed : All (λ item. IsTrue item.freed ↔ LostInSpan (span_of a) (owner_in item)) collected.items
  pub none_left : (o : Owner) → IsLeak (span_of a) request went_by o → ¬ (Owns (seen_now (span_of a)) o)

-- ---- CHECK

-- the block of the address's slot was read, by the pools that were read before
pub record HasChecked (a : Answered) (address : AddrValue) : Type 0 where
  pub p : ℕ
  pub pools : Said
  pub read_pools : HeardCall (span_of a) p (Get key.Pools) pools
  pub pool : Pool
  pub in_pool : pool_of address (pools_said pools) ≡ Some pool
  pub cidr : CidrValue
  pub is_slot : IsSlotOf pool cidr
  pub holds : Holds cidr address
  pub moment : ℕ
  pub block : Said
  pub read_block : HeardCall (span_of a) moment (Get (key.Block cidr)) block

-- the handle held the address there
pub record IsCheckedOf (a : Answered) (id : List ℕ) (address : AddrValue) : Type 0 where
  pub checked : HasChecked a address
  pub is_held : IsTrue (holds_at id address (block_said checked.block))

abbrev pub IsChecked : Answered → List ℕ → List AddrValue → Type 0
IsChecked a id addresses = All (IsCheckedOf a id) addresses

-- no pool held the address, or the handle did not hold it in the block that was read at the moment
pub data IsNotHeld (a : Answered) (id : List ℕ) (address : AddrValue) (moment : ℕ) : Type 0 where
  NoPoolHolds : (pools : Said) → HeardCall (span_of a) moment (Get key.Pools) pools → pool_of address (pools_said pools) ≡ None → IsNotHeld a id address moment
  NotHeldThere : (c : HasChecked a address) → c.moment ≡ moment → holds_at id address (block_said c.block) ≡ false → IsNotHeld a id address moment

-- it is the first of the addresses that the handle did not hold
pub record IsNotRecorded (a : Answered) (id : List ℕ) (addresses : List AddrValue) (address : AddrValue) (moment : ℕ) : Type 0 where
  pub earlier : List AddrValue
  pub later : List AddrValue
  pub place : addresses ≡ earlier ++ address ∷ later
  pub recorded : IsChecked a id earlier
  pub not_held : IsNotHeld a id address moment

-- ---- the release of an affinity

-- at the moment the request set the affinity to be deleted, and this revision is its mark
pub record HasMarked (a : Answered) (node : List ℕ) (cidr : CidrValue) (mark : ℕ) : Type 0 where
  pub moment : ℕ
  pub c : Called
  pub in_span : InSpan (span_of a) moment (entry.Called c)
  pub revision : ℕ
  pub is_update : c.call ≡ name.Update (key.Affinity node cidr) revision
  pub is_marking : c.written ≡ Some (record_of.Affinity (affinity node cidr PendingDeletion))
  pub is_mark : c.reply ≡ told.Done mark

-- the call deleted the affinity by the mark, and the block does not have the node
pub record IsReleased (a : Answered) (node : List ℕ) (cidr : CidrValue) : Type 0 where
  pub mark : ℕ
  pub revision : ℕ
  pub marked : HasMarked a node cidr mark
  pub deletes : a.call.call ≡ name.Delete (key.Affinity node cidr) mark
  pub is_done : a.call.reply ≡ told.Done revision
  pub bare : (b : block.BlockValue) → Has (seen_now (span_of a)) (key.Block cidr) (record_of.Block b) → b.node ≢ Some node

abbrev pub HasNoAffinity : Answered → List ℕ → CidrValue → (moment : ℕ) → Type 0
HasNoAffinity a node cidr moment = HeardCall (span_of a) moment (Get (key.Affinity node cidr)) Missing

-- ---- administration

-- what the request read last before the call that answers is this
pub record ReadLast (a : Answered) (request : Admin) (found : Said) : Type 0 where
  pub moment : ℕ
  pub read : HeardCall (span_of a) moment (Get (key_changed request)) found
  pub then_now : IsNext (span_of a) moment (now_of a)

-- the change of what was read last was written and took the revision
pub record IsChangeDone (a : Answered) (request : Admin) (revision : ℕ) : Type 0 where
  pub found : Said
  pub last : ReadLast a request found
  pub new : Record
  pub becomes : admin_change request found ≡ Becomes new
  pub is_written : a.call.written ≡ Some new
  pub is_done : a.call.reply ≡ told.Done revision

-- what the call that answers read is refused by the change
pub record IsChangeRefused (a : Answered) (request : Admin) (number : ℕ) (about : List ℕ) : Type 0 where
  pub found : Said
  pub read : HeardCall (span_of a) (now_of a) (Get (key_changed request)) found
  pub refuses : admin_change request found ≡ Refuses number about

-- ---- the probe

-- the choice on what was scanned is this
pub record HasProbed (a : Answered) (request : ProbeRequest) (scan : Scan) (choice : Choice) : Type 0 where
  pub seen : Seen
  pub scanned : HasScanned (span_of a) scan seen
  pub is_choice : IsChoice (asked_of_probe request scan.family) seen choice

-- the choice was an address or a claim
pub record IsReady (a : Answered) (request : ProbeRequest) (scan : Scan) : Type 0 where
  pub choice : Choice
  pub probed : HasProbed a request scan choice
  pub something : choice ≢ Nothing
  pub known : (place : ℕ) → choice ≢ NoPool place

-- One scan for each of the families, in their order: the first follows the moment at once, and each
-- other the one before it.
abbrev pub AreReady : Answered → ProbeRequest → (moment : ℕ) → List Family → List Scan → Type 0
AreReady a request moment [] [] = Unit {0}
AreReady a request moment (family ∷ families) (scan ∷ scans) =
    (scan.family ≡ family) × IsNext (span_of a) moment scan.c × IsReady a request scan
    × AreReady a request scan.b families scans
AreReady a request moment [] (scan ∷ scans) = ⊥
AreReady a request moment (family ∷ families) [] = ⊥

-- a probe's scans are one after the other, from its beginning on
abbrev pub probe_begins : Answered → ℕ
probe_begins a = begin_moment (span_of a)

-- the moment after the last of the scans
abbrev pub last_scan : (moment : ℕ) → List Scan → ℕ
last_scan moment [] = moment
last_scan moment (scan ∷ scans) = last_scan scan.b scans

-- the wanted families before that of the scan were ready, and then it was scanned
pub record WereReady (a : Answered) (request : ProbeRequest) (scan : Scan) : Type 0 where
  pub earlier : List Family
  pub later : List Family
  pub wanted : families_if request.ipv4 request.ipv6 ≡ earlier ++ scan.family ∷ later
  pub scans : List Scan
  pub ready : AreReady a request (probe_begins a) earlier scans
  pub then_scanned : IsNext (span_of a) (last_scan (probe_begins a) scans) scan.c

pub record IsProbedExhausted (a : Answered) (request : ProbeRequest) (scan : Scan) : Type 0 where
  pub earlier : WereReady a request scan
  pub probed : HasProbed a request scan Nothing

pub record IsProbedWithoutPool (a : Answered) (request : ProbeRequest) (called : List ℕ) (moment : ℕ) : Type 0 where
  pub scan : Scan
  pub place : ℕ
  pub earlier : WereReady a request scan
  pub probed : HasProbed a request scan (NoPool place)
  pub is_name : slice_get (asked_of_probe request scan.family).names place ≡ Some called
  pub at_pools : moment ≡ scan.p

-- ---- limits

-- a record could not be created for want of room
pub record IsFull (a : Answered) : Type 0 where
  pub moment : ℕ
  pub c : Called
  pub in_span : InSpan (span_of a) moment (entry.Called c)
  pub about : Key
  pub creates : c.call ≡ name.Create about
  pub is_full : c.reply ≡ told.Full

-- the handle's count of the block was at its limit
pub record IsCountFull (a : Answered) (id : List ℕ) (cidr : CidrValue) (moment : ℕ) : Type 0 where
  pub found : Said
  pub read : HeardCall (span_of a) moment (Get (key.Handle id)) found
  pub at_limit : count_of (handle_said id found) cidr ≡ most_count
