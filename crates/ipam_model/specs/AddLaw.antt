-- What the answers of an ADD say of the history.
use Rattle.std.specs.Prelude.{◌≡◌, ℕ, ◌+◌, ◌<◌, ◌⊎◌, List, [], ◌∷◌, ◌++◌, Some, None, slice_get}
use Rattle.std.specs.List.{All}
use Rattle.ipam_addr.specs.declared.address.Family.{Family}
use Rattle.ipam_addr.specs.Holding.{Holds}
use Rattle.ipam_addr.specs.Shape.{AddrValue, CidrValue}
use Rattle.ipam_pool.specs.Slots.{IsSlotOf}
use Rattle.ipam_block.specs.Shape as block
use Rattle.ipam_block.specs.Operations.{ordinal_address, holder}
use Rattle.ipam_block.specs.declared.allocation.Allocation.{Allocation}
use Rattle.ipam_block.specs.declared.allocation.Attributes.{Attributes}
use Rattle.ipam_records.specs.declared.call.Call.TheVariants.{Get}
use Rattle.ipam_records.specs.declared.key.Key.TheVariants as key
use Rattle.ipam_records.specs.declared.record.Record.TheVariants as record_of
use Rattle.ipam_records.specs.Datastore.{row_of}
use Rattle.ipam_records.specs.Said.{Said}
use Rattle.ipam_model.specs.declared.answer.Given.{Given}
use Rattle.ipam_model.specs.declared.answer.GivenThis.{GivenThis}
use Rattle.ipam_model.specs.declared.answer.Scan.{Scan}
use Rattle.ipam_model.specs.declared.choice.Choice.{Choice}
use Rattle.ipam_model.specs.declared.choice.Choice.TheVariants.{Use, Borrow, Nothing, NoPool}
use Rattle.ipam_model.specs.declared.entry.CallName.TheVariants as name
use Rattle.ipam_model.specs.declared.entry.Called.{Called}
use Rattle.ipam_model.specs.declared.entry.Entry.TheVariants as entry
use Rattle.ipam_model.specs.declared.entry.Told.TheVariants as told
use Rattle.ipam_model.specs.declared.request.AddRequest.{AddRequest}
use Rattle.ipam_model.specs.Add.{asked_of}
use Rattle.ipam_model.specs.Answered.{Answered, span_of}
use Rattle.ipam_model.specs.AddThis.{asked_of_this}
use Rattle.ipam_model.specs.Assigning.{names_for}
use Rattle.ipam_model.specs.Choice.{Seen, IsChoice, Takes, Leaves, share_of}
use Rattle.ipam_model.specs.History.{RequestSpan, seen_at, seen_now, InSpan, HeardCall}
use Rattle.ipam_model.specs.Credits.{HasWritten}
use Rattle.ipam_model.specs.Moments.{IsNext, Owns, Gains, GainedInSpan}
use Rattle.ipam_model.specs.Owners.{Owner, owned_in}
use Rattle.ipam_model.specs.Reads.{config_said, pools_said, block_said}
use Rattle.ipam_model.specs.Rounds.{HasScanned}
use Rattle.ipam_model.specs.Usable.{families_if, usable_pool_of}
use Rattle.ipam_pool.specs.declared.pools.Pool.{Pool}

-- ---- the write that an answer stands on

-- the ordinal of a block as it was read, with its revision, and the attributes that it is to have
pub record Taking : Type 0 where
  pub attributes : Attributes
  pub read : ℕ × block.BlockValue
  pub ordinal : ℕ

-- At the moment the block was updated at the revision at which it was read, the ordinal is held by
-- the handle with the request's attributes, and the address, which nobody owned, is the handle's
-- with the written sequence number as its stamp.
pub record IsRecordedAt (span : RequestSpan) (moment : ℕ) (taking : Taking) : Type 0 where
  pub call : Called
  pub in_span : InSpan span moment (entry.Called call)
  pub revision : ℕ
  pub is_update : call.call ≡ name.Update (key.Block taking.read.1.cidr) taking.read.0
  pub is_done : call.reply ≡ told.Done revision
  pub written : block.BlockValue
  pub is_written : call.written ≡ Some (record_of.Block written)
  pub allocation : Allocation
  pub is_held : holder written taking.ordinal ≡ Some allocation
  pub with_attributes : allocation.attributes ≡ taking.attributes
  pub with_stamp : allocation.stamp ≡ written.sequence
  pub gains : Gains (seen_at span moment) (seen_at span (moment + 1)) (record {
    address = ordinal_address taking.read.1.cidr taking.ordinal;
    handle = taking.attributes.handle;
    stamp = written.sequence;
  })

-- ---- for which family a round is

abbrev pub families_of : AddRequest → List Family
families_of request = families_if request.ipv4 request.ipv6

-- before the moment the span wrote a block of the family so that more of it was owned
pub record HasGiven (span : RequestSpan) (moment : ℕ) (family : Family) : Type 0 where
  pub given_at : ℕ
  pub earlier : given_at < moment
  pub cidr : CidrValue
  pub of_family : cidr.family ≡ family
  pub wrote : HasWritten span given_at (key.Block cidr)
  pub more : owned_in (seen_at span given_at) cidr < owned_in (seen_at span (given_at + 1)) cidr

-- A round that begins at the moment is for this family: it is wanted, each family that is wanted
-- before it has been given an address, and it has not.
pub record IsRoundFor (span : RequestSpan) (request : AddRequest) (moment : ℕ) (family : Family) : Type 0 where
  pub earlier : List Family
  pub later : List Family
  pub wanted : families_of request ≡ earlier ++ family ∷ later
  pub have_theirs : All (HasGiven span moment) earlier
  pub has_not : ¬ (HasGiven span moment family)

-- the request scanned for the family of the scan, and the choice on what it saw is this
pub record HasChosen (span : RequestSpan) (request : AddRequest) (scan : Scan) (choice : Choice) : Type 0 where
  pub round : IsRoundFor span request scan.c scan.family
  pub seen : Seen
  pub scanned : HasScanned span scan seen
  pub is_choice : IsChoice (asked_of request scan.family) seen choice

-- the choice was the ordinal of the block, whoever has it
abbrev pub HasChosenOf : RequestSpan → AddRequest → Scan → (cidr : CidrValue) → (ordinal : ℕ) → Type 0
HasChosenOf span request scan cidr ordinal =
    HasChosen span request scan (Use cidr ordinal) ⊎ HasChosen span request scan (Borrow cidr ordinal)

-- ---- Added

abbrev pub scan_of : Family → Given → Scan
scan_of family given = record {
  family = family;
  c = given.c;
  p = given.p;
  r = given.r;
  f = given.f;
  b = given.b;
}

-- the choice on what was read is an ordinal of this block, and it was recorded later
pub record IsGivenRight (a : Answered) (request : AddRequest) (family : Family) (given : Given) : Type 0 where
  pub cidr : CidrValue
  pub ordinal : ℕ
  pub chosen : HasChosenOf (span_of a) request (scan_of family given) cidr ordinal
  pub is_address : given.address ≡ ordinal_address cidr ordinal
  pub read : ℕ × block.BlockValue
  pub was_listed : row_of (key.Block cidr) (seen_at (span_of a) given.b).rows ≡ Some (read.0, record_of.Block read.1)
  pub later : given.b < given.w
  pub recorded : IsRecordedAt (span_of a) given.w (record { attributes = request.attributes; read = read; ordinal = ordinal })

-- one address for each wanted family, in their order
abbrev pub AreGivenRight : Answered → AddRequest → List Family → List Given → Type 0
AreGivenRight a request [] [] = Unit {0}
AreGivenRight a request (family ∷ families) (given ∷ more) =
    IsGivenRight a request family given × AreGivenRight a request families more
AreGivenRight a request [] (given ∷ more) = ⊥
AreGivenRight a request (family ∷ families) [] = ⊥

-- ---- no address

-- nothing that the request was given is owned any more
abbrev pub HasNothing : Answered → Type 0
HasNothing a = (owner : Owner) → GainedInSpan (span_of a) owner → ¬ (Owns (seen_now (span_of a)) owner)

-- for a wanted family the choice on what was read is nothing, so no candidate was left
pub record IsExhausted (a : Answered) (request : AddRequest) (scan : Scan) : Type 0 where
  pub chosen : HasChosen (span_of a) request scan Nothing
  pub nothing_left : HasNothing a

-- no enabled pool of a wanted family had the name
pub record IsWithoutPool (a : Answered) (request : AddRequest) (called : List ℕ) (moment : ℕ) : Type 0 where
  pub scan : Scan
  pub place : ℕ
  pub chosen : HasChosen (span_of a) request scan (NoPool place)
  pub at_pools : moment ≡ scan.p
  pub is_name : slice_get (names_for scan.family request) place ≡ Some called
  pub nothing_left : HasNothing a

-- ---- an ADD of one address

-- the moments at which the configuration, the pools and the block of the address's slot were read
pub record LookRevisions : Type 0 where
  pub c : ℕ
  pub p : ℕ
  pub b : ℕ

-- they were read at these moments, one after the other
pub record HasLooked (span : RequestSpan) (request : AddRequest) (address : AddrValue) (at : LookRevisions) : Type 0 where
  pub config : Said
  pub pools : Said
  pub block : Said
  pub pool : Pool
  pub cidr : CidrValue
  pub at_c : HeardCall span at.c (Get key.Config) config
  pub at_p : HeardCall span at.p (Get key.Pools) pools
  pub at_b : HeardCall span at.b (Get (key.Block cidr)) block
  pub then_p : IsNext span at.c at.p
  pub then_b : IsNext span at.p at.b
  pub is_usable : usable_pool_of (asked_of_this request address) address (pools_said pools) ≡ Some pool
  pub is_slot : IsSlotOf pool cidr
  pub holds : Holds cidr address

-- the block was there, and this is the address's ordinal in it
pub record HasFound (a : Answered) (request : AddRequest) (address : AddrValue) (at : LookRevisions) : Type 0 where
  pub looked : HasLooked (span_of a) request address at
  pub read : ℕ × block.BlockValue
  pub was_read : block_said looked.block ≡ Some read
  pub ordinal : ℕ
  pub is_ordinal : address ≡ ordinal_address looked.cidr ordinal

abbrev pub looks_of : GivenThis → LookRevisions
looks_of given = record { c = given.c; p = given.p; b = given.b }

pub record IsThisGivenRight (a : Answered) (request : AddRequest) (address : AddrValue) (given : GivenThis) : Type 0 where
  pub is_address : given.address ≡ address
  pub found : HasFound a request address (looks_of given)
  pub was_free : holder found.read.1 found.ordinal ≡ None
  pub may_take : share_of (config_said found.looked.config).strict request.node found.read.1 ≡ Takes
  pub later : given.b < given.w
  pub recorded : IsRecordedAt (span_of a) given.w (record { attributes = request.attributes; read = found.read; ordinal = found.ordinal })

-- no usable pool holds the address
pub record IsNotInPool (a : Answered) (request : AddRequest) (address : AddrValue) (moment : ℕ) : Type 0 where
  pub pools : Said
  pub at_p : HeardCall (span_of a) moment (Get key.Pools) pools
  pub unusable : usable_pool_of (asked_of_this request address) address (pools_said pools) ≡ None

-- the handle of this id holds the address
pub record IsTaken (a : Answered) (request : AddRequest) (address : AddrValue) (id : List ℕ) (moment : ℕ) : Type 0 where
  pub at : LookRevisions
  pub at_b : at.b ≡ moment
  pub found : HasFound a request address at
  pub held : Allocation
  pub is_held : holder found.read.1 found.ordinal ≡ Some held
  pub is_holder : held.attributes.handle ≡ id

-- the address is free in a block of another node, or in one of none that is not empty, and affinity is strict
pub record IsNotAffine (a : Answered) (request : AddRequest) (address : AddrValue) (cidr : CidrValue) (moment : ℕ) : Type 0 where
  pub at : LookRevisions
  pub at_b : at.b ≡ moment
  pub found : HasFound a request address at
  pub is_block : cidr ≡ found.looked.cidr
  pub was_free : holder found.read.1 found.ordinal ≡ None
  pub is_left : share_of (config_said found.looked.config).strict request.node found.read.1 ≡ Leaves
