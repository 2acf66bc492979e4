-- What a request that runs alone comes to, as a function of the records that are there. Revisions and
-- moments do not matter here: rows are compared by their records.
use Rattle.std.specs.Prelude.{◌≡◌, ℕ, zero, suc, ◌+◌, ◌-◌, ◌*◌, ◌≤◌, ◌≢◌, Bool, true, false, List, [], ◌∷◌, ◌++◌, Option, Some, None, map, filter, length, if◌then◌else◌, ◌==◌}
use Rattle.std.specs.List.{All, count_by}
use Rattle.ipam_addr.specs.declared.address.Family.{Family}
use Rattle.ipam_addr.specs.Shape.{AddrValue, CidrValue}
use Rattle.ipam_pool.specs.declared.pools.Pool.{Pool}
use Rattle.ipam_block.specs.declared.allocation.Allocation.{Allocation}
use Rattle.ipam_block.specs.declared.allocation.Attributes.{Attributes}
use Rattle.ipam_block.specs.Shape as block
use Rattle.ipam_block.specs.Operations.{ordinal_address, fresh_block, next_block, affine_to, block_with_ordinal, block_without, holder}
use Rattle.ipam_block.specs.declared.state.State.TheVariants.{Confirmed}
use Rattle.ipam_block.specs.HandleShape as handle
use Rattle.ipam_block.specs.HandleOperations.{with_raised_count, with_lowered_count}
use Rattle.ipam_records.specs.declared.key.Key.{Key}
use Rattle.ipam_records.specs.declared.key.Key.TheVariants as key
use Rattle.ipam_records.specs.declared.key.Kind.TheVariants as kind
use Rattle.ipam_records.specs.declared.record.Record.{Record}
use Rattle.ipam_records.specs.declared.record.Record.TheVariants as record_of
use Rattle.ipam_records.specs.Datastore.{Datastore, row_key, row_of, with_row, without_row, reply_to_get, last_revision, most_rows, most_blocks, rows_of_kind}
use Rattle.ipam_records.specs.KeyOrder.{is_of_kind}
use Rattle.ipam_records.specs.Said.{Said}
use Rattle.ipam_model.specs.declared.answer.Answer.{Answer}
use Rattle.ipam_model.specs.declared.answer.Answer.TheVariants as answer
use Rattle.ipam_model.specs.declared.answer.Given.{Given}
use Rattle.ipam_model.specs.declared.choice.Choice.{Choice}
use Rattle.ipam_model.specs.declared.choice.Choice.TheVariants.{Nothing, NoPool}
use Rattle.ipam_model.specs.declared.request.AddRequest.{AddRequest}
use Rattle.ipam_model.specs.declared.request.CollectRequest.{CollectRequest}
use Rattle.ipam_model.specs.declared.request.ProbeRequest.{ProbeRequest}
use Rattle.ipam_model.specs.declared.request.Request.{Request}
use Rattle.ipam_model.specs.declared.request.Request.TheVariants.{Add, AddThis, Del, Check, Release, Collect, Admin, Probe}
use Rattle.ipam_model.specs.Add.{asked_of, name_in_place}
use Rattle.ipam_model.specs.AddThis.{Wanted, asked_of_this, slot_holding}
use Rattle.ipam_model.specs.Affinities.{affinity}
use Rattle.ipam_model.specs.Alone.{alone_over}
use Rattle.ipam_model.specs.Assigning.{names_for}
use Rattle.ipam_model.specs.Choice.{Seen, choice_of, room_of, by_share, share_of, Rank, Own, Unconfirmed, Unclaimed, Foreign, Pick, Unknown, Lacks as NoneLeft, Picks, pick_of}
use Rattle.ipam_model.specs.Consistent.{IsConsistent}
use Rattle.ipam_model.specs.Counting.{most_count, FreedOfHandle, freeing_all, freeing_one}
use Rattle.ipam_model.specs.History.{Base}
use Rattle.ipam_model.specs.Look.{asked_of_probe, holds_at}
use Rattle.ipam_model.specs.OtherLaws.{owner_in}
use Rattle.ipam_model.specs.Owners.{Owner}
use Rattle.ipam_model.specs.Reads.{StoredRecord, config_said, pools_said, reservations_said, handle_said, block_said}
use Rattle.ipam_model.specs.Remove.{Leak, freeing_owner, suspects, leaks}
use Rattle.ipam_model.specs.SoundRequest.{IsSoundRequest}
use Rattle.ipam_model.specs.Usable.{Asked, families_if, usable_pool_of, pool_of}

abbrev pub Rows : Type 0
Rows = List StoredRecord

-- ---- changes of the records

abbrev pub put : Record → Rows → Rows
put new rows = with_row (0, new) rows

abbrev pub found_in : Key → Rows → Said
found_in asked rows = reply_to_get (row_of asked rows)

abbrev pub block_in_rows : CidrValue → Rows → Option (ℕ × block.BlockValue)
block_in_rows cidr rows = block_said (found_in (key.Block cidr) rows)

abbrev pub handle_of : List ℕ → Rows → handle.HandleValue
handle_of id rows = handle_said id (found_in (key.Handle id) rows)

abbrev pub kept_or_gone : handle.HandleValue → (counts : List (CidrValue × ℕ)) → Rows → Rows
kept_or_gone h [] rows = without_row (key.Handle h.id) rows
kept_or_gone h (count ∷ counts) rows = put (record_of.Handle h) rows

-- the count is one higher, or lower by so many, and a handle without counts goes
abbrev pub with_raised : List ℕ → CidrValue → Rows → Rows
with_raised id cidr rows = put (record_of.Handle (with_raised_count (handle_of id rows) cidr 1)) rows

abbrev pub with_lowered : List ℕ → CidrValue → (amount : ℕ) → Rows → Rows
with_lowered id cidr amount rows =
    let h = with_lowered_count (handle_of id rows) cidr amount in kept_or_gone h h.counts rows

-- the ordinal of the block is the handle's
abbrev pub with_assigned : Attributes → block.BlockValue → (ordinal : ℕ) → Rows → Rows
with_assigned attributes b ordinal rows =
    put (record_of.Block (block_with_ordinal (next_block b) ordinal attributes))
    (with_raised attributes.handle b.cidr rows)

abbrev pub claimed_block : List ℕ → CidrValue → Option (ℕ × block.BlockValue) → block.BlockValue
claimed_block node cidr None = fresh_block cidr (Some node)
claimed_block node cidr (Some found) = affine_to (Some node) (next_block found.1)

-- the block has the node and the affinity is confirmed
abbrev pub with_claimed : List ℕ → CidrValue → Rows → Rows
with_claimed node cidr rows =
    put (record_of.Block (claimed_block node cidr (block_in_rows cidr rows)))
    (put (record_of.Affinity (affinity node cidr Confirmed)) rows)

abbrev pub with_these_freed : FreedOfHandle → (amount : ℕ) → block.BlockValue → Rows → Rows
with_these_freed what zero b rows = rows
with_these_freed what (suc more) b rows =
    with_lowered what.handle b.cidr (suc more) (put (record_of.Block (block_without what.picks (next_block b))) rows)

abbrev pub with_freed_found : FreedOfHandle → Option (ℕ × block.BlockValue) → Rows → Rows
with_freed_found what None rows = rows
with_freed_found what (Some found) rows =
    with_these_freed what (count_by what.picks found.1.allocations) found.1 rows

-- what is picked is free, and the handle's count is lower by as many
abbrev pub with_freed : FreedOfHandle → Rows → Rows
with_freed what rows = with_freed_found what (block_in_rows what.block rows) rows

-- ---- answers without moments

pub data PlainAnswer : Type 0 where
  Gives : List AddrValue → PlainAnswer
  Lacks : Family → PlainAnswer
  KnowsNoPool : (name : List ℕ) → PlainAnswer
  IsInNoPool : PlainAnswer
  IsHeldBy : (id : List ℕ) → PlainAnswer
  IsAnothers : (cidr : CidrValue) → PlainAnswer
  Deletes : PlainAnswer
  Holds : PlainAnswer
  HoldsNot : AddrValue → PlainAnswer
  Collects : List Owner → PlainAnswer
  CanGive : PlainAnswer

abbrev pub plain_of : Answer → Option PlainAnswer
plain_of (answer.Added given) = Some (Gives (map (λ (g : Given). g.address) given))
plain_of (answer.AddedThis given) = Some (Gives (given.address ∷ []))
plain_of (answer.Exhausted scan) = Some (Lacks scan.family)
plain_of (answer.NoPool name moment) = Some (KnowsNoPool name)
plain_of (answer.NotInPool moment) = Some IsInNoPool
plain_of (answer.Taken id moment) = Some (IsHeldBy id)
plain_of (answer.NotAffine cidr moment) = Some (IsAnothers cidr)
plain_of (answer.Deleted moment) = Some Deletes
plain_of answer.Checked = Some Holds
plain_of (answer.NotRecorded address moment) = Some (HoldsNot address)
plain_of (answer.Collected collected) = Some (Collects (map owner_in collected.items))
plain_of (answer.Ready scans) = Some CanGive
plain_of _ = None

-- ---- ADD

abbrev pub seen_in : Rows → Seen
seen_in rows = record {
  config = config_said (found_in key.Config rows);
  pools = pools_said (found_in key.Pools rows);
  reservations = reservations_said (found_in key.Reservations rows);
  affinities = filter (λ row. is_of_kind kind.Affinity (row_key row)) rows;
  blocks = filter (λ row. is_of_kind kind.Block (row_key row)) rows;
}

-- an address that was given, with its block, ordinal and stamp
pub record PlainGift : Type 0 where
  pub address : AddrValue
  pub block : CidrValue
  pub ordinal : ℕ
  pub stamp : ℕ

abbrev pub plain_gift : ℕ × block.BlockValue → (ordinal : ℕ) → PlainGift
plain_gift found ordinal = record {
  address = ordinal_address found.1.cidr ordinal;
  block = found.1.cidr;
  ordinal = ordinal;
  stamp = found.1.sequence + 1;
}

-- an address, or an answer without one
pub data PlainServed : Type 0 where
  Served : PlainGift → Rows → PlainServed
  Unserved : PlainAnswer → Rows → PlainServed

abbrev pub plain_take : AddRequest → ℕ × block.BlockValue → (ordinal : ℕ) → Rows → PlainServed
plain_take request found ordinal rows =
    Served (plain_gift found ordinal) (with_assigned request.attributes found.1 ordinal rows)

abbrev pub room_in : Seen → Option (ℕ × block.BlockValue) → Option ℕ
room_in seen None = None
room_in seen (Some found) = room_of seen found.1

-- a block that was claimed has room
abbrev pub plain_take_claimed : AddRequest → Family → (room : Option ℕ) → Option (ℕ × block.BlockValue) → Rows → PlainServed
plain_take_claimed request family (Some ordinal) (Some found) rows = plain_take request found ordinal rows
plain_take_claimed request family _ _ rows = Unserved (Lacks family) rows

abbrev pub plain_claim : AddRequest → Family → CidrValue → Rows → PlainServed
plain_claim request family cidr rows =
    let claimed = with_claimed request.node cidr rows in
    plain_take_claimed request family (room_in (seen_in claimed) (block_in_rows cidr claimed)) (block_in_rows cidr claimed) claimed

abbrev pub plain_rank : AddRequest → Family → CidrValue → Rank → Rows → PlainServed
plain_rank request family cidr (Own found ordinal) rows = plain_take request found ordinal rows
plain_rank request family cidr (Unconfirmed found) rows = plain_claim request family cidr rows
plain_rank request family cidr (Unclaimed read) rows = plain_claim request family cidr rows
plain_rank request family cidr (Foreign found ordinal) rows = plain_take request found ordinal rows

abbrev pub plain_pick : AddRequest → Family → Pick → Rows → PlainServed
plain_pick request family (Picks ranked) rows = plain_rank request family ranked.slot ranked.rank rows
plain_pick request family NoneLeft rows = Unserved (Lacks family) rows
plain_pick request family (Unknown place) rows = Unserved (KnowsNoPool (name_in_place (names_for family request) place)) rows

abbrev pub plain_family : AddRequest → Family → Rows → PlainServed
plain_family request family rows =
    plain_pick request family (pick_of (asked_of request family) (seen_in rows)) rows

abbrev pub PlainResult : Type 0
PlainResult = PlainAnswer × Rows

abbrev pub freeing_gift : AddRequest → PlainGift → FreedOfHandle
freeing_gift request gift = freeing_one request.attributes.handle gift.block gift.ordinal gift.stamp

-- what was given is freed, and what was claimed stays claimed
abbrev pub with_gifts_freed : AddRequest → List PlainGift → Rows → Rows
with_gifts_freed request [] rows = rows
with_gifts_freed request (gift ∷ gifts) rows =
    with_gifts_freed request gifts (with_freed (freeing_gift request gift) rows)

abbrev pub plain_after : AddRequest → List PlainGift → (rest : PlainGift → Rows → PlainResult) → PlainServed → PlainResult
plain_after request gifts rest (Served gift rows) = rest gift rows
plain_after request gifts rest (Unserved why rows) = (why, with_gifts_freed request gifts rows)

-- an address of each of the families, after what was given before
abbrev pub plain_each : AddRequest → List PlainGift → List Family → Rows → PlainResult
plain_each request gifts [] rows = (Gives (map (λ (gift : PlainGift). gift.address) gifts), rows)
plain_each request gifts (family ∷ families) rows =
    plain_after request gifts (λ gift later. plain_each request (gifts ++ gift ∷ []) families later)
    (plain_family request family rows)

abbrev pub plain_add : AddRequest → Rows → PlainResult
plain_add request rows = plain_each request [] (families_if request.ipv4 request.ipv6) rows

-- ---- ADD of one address

abbrev pub plain_this : Wanted → CidrValue → Option (ℕ × block.BlockValue) → Rows → PlainResult
plain_this wanted cidr None rows = (IsInNoPool, rows)
plain_this wanted cidr (Some found) rows =
    (Gives (wanted.address ∷ []), with_assigned wanted.request.attributes found.1 (wanted.address.number - cidr.base) rows)

abbrev pub plain_this_claimed : Wanted → CidrValue → Rows → PlainResult
plain_this_claimed wanted cidr rows =
    let claimed = with_claimed wanted.request.node cidr rows in
    plain_this wanted cidr (block_in_rows cidr claimed) claimed

abbrev pub plain_this_free : (strict : Bool) → Wanted → CidrValue → ℕ × block.BlockValue → Rows → PlainResult
plain_this_free strict wanted cidr found rows =
    by_share (share_of strict wanted.request.node found.1)
    (plain_this wanted cidr (Some found) rows)
    (plain_this_claimed wanted cidr rows)
    (IsAnothers cidr, rows)

abbrev pub plain_this_held : (free : PlainResult) → Rows → Option Allocation → PlainResult
plain_this_held free rows None = free
plain_this_held free rows (Some held) = (IsHeldBy held.attributes.handle, rows)

abbrev pub plain_this_block : (strict : Bool) → Wanted → CidrValue → Option (ℕ × block.BlockValue) → Rows → PlainResult
plain_this_block strict wanted cidr None rows = plain_this_claimed wanted cidr rows
plain_this_block strict wanted cidr (Some found) rows =
    plain_this_held (plain_this_free strict wanted cidr found rows) rows
    (holder found.1 (wanted.address.number - cidr.base))

abbrev pub plain_this_pool : (strict : Bool) → Wanted → Option Pool → Rows → PlainResult
plain_this_pool strict wanted None rows = (IsInNoPool, rows)
plain_this_pool strict wanted (Some pool) rows =
    let cidr = slot_holding pool wanted.address in
    plain_this_block strict wanted cidr (block_in_rows cidr rows) rows

abbrev pub plain_add_this : Wanted → Rows → PlainResult
plain_add_this wanted rows =
    let seen = seen_in rows in
    plain_this_pool seen.config.strict wanted
    (usable_pool_of (asked_of_this wanted.request wanted.address) wanted.address seen.pools) rows

-- ---- DEL, collection, CHECK and the probe

abbrev pub with_all_freed : List ℕ → List CidrValue → Rows → Rows
with_all_freed id [] rows = rows
with_all_freed id (cidr ∷ rest) rows = with_all_freed id rest (with_freed (freeing_all id cidr) rows)

abbrev pub plain_del : List ℕ → Rows → PlainResult
plain_del id rows = (Deletes, with_all_freed id (map (λ count. count.0) (handle_of id rows).counts) rows)

abbrev pub with_leaks_freed : List Leak → Rows → Rows
with_leaks_freed [] rows = rows
with_leaks_freed (leak ∷ rest) rows =
    with_leaks_freed rest (with_freed (freeing_owner leak.owner leak.block) rows)

abbrev pub plain_collect : CollectRequest → Rows → PlainResult
plain_collect request rows =
    let found = leaks (suspects request rows) request.live rows in
    (Collects (map (λ (leak : Leak). leak.owner) found), with_leaks_freed found rows)

abbrev pub plain_check_next : (rest : PlainAnswer) → AddrValue → Bool → PlainAnswer
plain_check_next rest address true = rest
plain_check_next rest address false = HoldsNot address

abbrev pub holds_in : List ℕ → AddrValue → Option Pool → Rows → Bool
holds_in id address None rows = false
holds_in id address (Some pool) rows = holds_at id address (block_in_rows (slot_holding pool address) rows)

abbrev pub plain_check : List ℕ → List AddrValue → Rows → PlainAnswer
plain_check id [] rows = Holds
plain_check id (address ∷ rest) rows =
    plain_check_next (plain_check id rest rows) address
    (holds_in id address (pool_of address (pools_said (found_in key.Pools rows))) rows)

abbrev pub plain_probe_next : (rest : PlainAnswer) → Asked → Choice → PlainAnswer
plain_probe_next rest asked Nothing = Lacks asked.family
plain_probe_next rest asked (NoPool place) = KnowsNoPool (name_in_place asked.names place)
plain_probe_next rest asked _ = rest

abbrev pub plain_probe_family : ProbeRequest → Family → (rest : PlainAnswer) → Rows → PlainAnswer
plain_probe_family request family rest rows =
    plain_probe_next rest (asked_of_probe request family) (choice_of (asked_of_probe request family) (seen_in rows))

abbrev pub plain_probe : ProbeRequest → List Family → Rows → PlainAnswer
plain_probe request [] rows = CanGive
plain_probe request (family ∷ families) rows =
    plain_probe_family request family (plain_probe request families rows) rows

-- ---- all of them

-- a collection is fed at once, so it is one without a grace
abbrev pub plain_collection : CollectRequest → Rows → Option PlainResult
plain_collection request rows = if request.grace == 0 then Some (plain_collect request rows) else None

-- The request's function of the records. The release of an affinity and administration have none:
-- only their words say what they do.
abbrev pub plain : Request → Rows → Option PlainResult
plain (Add request) rows = Some (plain_add request rows)
plain (AddThis request address) rows = Some (plain_add_this (record { request = request; address = address }) rows)
plain (Del id) rows = Some (plain_del id rows)
plain (Check id addresses) rows = Some (plain_check id addresses rows, rows)
plain (Release node cidr) rows = None
plain (Collect request) rows = plain_collection request rows
plain (Admin change) rows = None
plain (Probe request) rows = Some (plain_probe request (families_if request.ipv4 request.ipv6) rows, rows)

-- ---- with spare

-- how many revisions the request needs at most
abbrev pub needs : Request → Rows → ℕ
needs (Del id) rows = 2 * length (handle_of id rows).counts
needs (Collect request) rows = 2 * length (leaks (suspects request rows) request.live rows)
needs _ rows = 0

abbrev pub request_handle : Request → List ℕ
request_handle (Add request) = request.attributes.handle
request_handle (AddThis request address) = request.attributes.handle
request_handle _ = []

-- there are revisions, rows and counts enough
pub record HasSpare (store : Datastore) (request : Request) : Type 0 where
  pub revisions : store.counter + 12 ≤ last_revision
  pub for_all_blocks : store.counter + needs request store.rows ≤ last_revision
  pub rows : length store.rows + 5 ≤ most_rows
  pub blocks : length (rows_of_kind kind.Block store) + 2 ≤ most_blocks
  pub counts : All (λ (entry : CidrValue × ℕ). entry.1 ≢ most_count) (handle_of (request_handle request) store.rows).counts

-- a collection needs revisions alone
abbrev pub HasSpareFor : Datastore → Request → Type 0
HasSpareFor store (Collect request) = store.counter + needs (Collect request) store.rows ≤ last_revision
HasSpareFor store request = HasSpare store request

abbrev pub records : Rows → List Record
records rows = map (λ row. row.1) rows

-- A request that runs alone with spare comes to what the records say.
abbrev pub AloneLaw : Type 0
AloneLaw =
    (base : Base) (request : Request) (result : PlainResult)
    → IsConsistent base.store → IsSoundRequest request → HasSpareFor base.store request → plain request base.store.rows ≡ Some result
    → (plain_of (alone_over base request).0 ≡ Some result.0)
    × (records (alone_over base request).1.rows ≡ records result.1)
