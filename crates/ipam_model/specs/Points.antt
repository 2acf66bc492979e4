-- Where a request stands in a claim or a release, by the calls that it has made.
use Rattle.std.specs.Prelude.{◌≡◌, ◌≢◌, ◌⊎◌, ℕ, ◌<◌, IsTrue, List, Option, Some}
use Rattle.ipam_addr.specs.Shape.{CidrValue}
use Rattle.ipam_block.specs.declared.record.Affinity.{Affinity}
use Rattle.ipam_block.specs.declared.state.State.TheVariants.{Pending, PendingDeletion}
use Rattle.ipam_block.specs.Shape as block
use Rattle.ipam_records.specs.declared.call.Call.TheVariants.{Get, List as ListAll}
use Rattle.ipam_records.specs.declared.key.Key.TheVariants as key
use Rattle.ipam_records.specs.declared.key.Kind.TheVariants as kind
use Rattle.ipam_records.specs.declared.record.Record.{Record}
use Rattle.ipam_records.specs.declared.record.Record.TheVariants as record_of
use Rattle.ipam_records.specs.Label.{Point, Nowhere, Claiming, Claimed, Releasing, Released}
use Rattle.ipam_records.specs.Said.{Said, Found}
use Rattle.ipam_model.specs.declared.entry.Called.{Called}
use Rattle.ipam_model.specs.declared.entry.Entry.TheVariants as entry
use Rattle.ipam_model.specs.declared.entry.Told.TheVariants as told
use Rattle.ipam_model.specs.declared.request.Request.{Request}
use Rattle.ipam_model.specs.declared.request.Request.TheVariants.{Release}
use Rattle.ipam_model.specs.Affinities.{affinity}
use Rattle.ipam_model.specs.History.{RequestSpan, HeardCall, InSpan, cluster_at, now, seen_at, span_before}
use Rattle.ipam_model.specs.Moments.{IsNext, request_in, revision_of}
use Rattle.ipam_model.specs.Tries.{is_add}

-- ---- what the calls were

-- at the moment the span wrote this record, which took this revision
pub record HasPut (span : RequestSpan) (moment : ℕ) (new : Record) (revision : ℕ) : Type 0 where
  pub c : Called
  pub in_span : InSpan span moment (entry.Called c)
  pub is_written : c.written ≡ Some new
  pub is_done : c.reply ≡ told.Done revision

-- nothing came in the span after the moment
abbrev pub IsLatest : RequestSpan → (moment : ℕ) → Type 0
IsLatest span moment = IsNext span moment (now span)

-- the request that runs in the slot
abbrev pub RunsInSlot : RequestSpan → Request → Type 0
RunsInSlot span request = request_in (cluster_at span.base span.history) span.slot ≡ Some request

-- the revision of the block was seen at the moment, or that there is none
abbrev pub HasSeen : RequestSpan → (moment : ℕ) → CidrValue → Type 0
HasSeen span moment cidr =
    (said : Said) × (HeardCall span moment (ListAll kind.Block) said ⊎ HeardCall span moment (Get (key.Block cidr)) said)

-- where the span saw the block last, it had this revision, or was missing
pub record SawLast (span : RequestSpan) (cidr : CidrValue) (read : Option ℕ) : Type 0 where
  pub moment : ℕ
  pub seen : HasSeen span moment cidr
  pub last : (later : ℕ) → moment < later → ¬ (HasSeen span later cidr)
  pub was : revision_of (seen_at span moment) (key.Block cidr) ≡ read

-- ---- a claim

-- the affinity that a claim keeps: as it was found, if it is not to be deleted, or as it was written
pub data HasKept (span : RequestSpan) (moment : ℕ) (node : List ℕ) (cidr : CidrValue) (kept : ℕ) : Type 0 where
  AsFound : (found : Affinity) → HeardCall span moment (Get (key.Affinity node cidr)) (Found kept (record_of.Affinity found))
      → found.state ≢ PendingDeletion → HasKept span moment node cidr kept
  AsPut : HasPut span moment (record_of.Affinity (affinity node cidr Pending)) kept → HasKept span moment node cidr kept

-- an ADD whose latest call found or wrote the affinity, and which saw the block before
pub record IsClaiming (span : RequestSpan) (node : List ℕ) (cidr : CidrValue) (read : Option ℕ) (kept : ℕ) : Type 0 where
  pub request : Request
  pub runs : RunsInSlot span request
  pub adds : IsTrue (is_add request)
  pub moment : ℕ
  pub latest : IsLatest span moment
  pub has_kept : HasKept span moment node cidr kept
  pub saw : SawLast span cidr read

-- the write of this block, where the span stood so before
pub record HasPutBlock (span : RequestSpan) (cidr : CidrValue) (Before : RequestSpan → Type 0) : Type 0 where
  pub request : Request
  pub runs : RunsInSlot span request
  pub moment : ℕ
  pub latest : IsLatest span moment
  pub b : block.BlockValue
  pub is_of : b.cidr ≡ cidr
  pub revision : ℕ
  pub put : HasPut span moment (record_of.Block b) revision
  pub stood : Before (span_before span moment)

abbrev pub IsClaimed : RequestSpan → List ℕ → CidrValue → (kept : ℕ) → Type 0
IsClaimed span node cidr kept =
    HasPutBlock span cidr (λ earlier. (read : Option ℕ) × IsClaiming earlier node cidr read kept)

-- ---- a release

-- the affinity was marked, the block read, and the affinity found at the mark, in the latest calls
pub record IsReleasing (span : RequestSpan) (node : List ℕ) (cidr : CidrValue) (read : Option ℕ) (mark : ℕ) : Type 0 where
  pub runs : RunsInSlot span (Release node cidr)
  pub marked : ℕ
  pub has_marked : HasPut span marked (record_of.Affinity (affinity node cidr PendingDeletion)) mark
  pub looked : ℕ
  pub block_said : Said
  pub has_looked : HeardCall span looked (Get (key.Block cidr)) block_said
  pub then_looked : IsNext span marked looked
  pub was : revision_of (seen_at span looked) (key.Block cidr) ≡ read
  pub again : ℕ
  pub found : Affinity
  pub at_mark : HeardCall span again (Get (key.Affinity node cidr)) (Found mark (record_of.Affinity found))
  pub then_again : IsNext span looked again
  pub latest : IsLatest span again

abbrev pub IsBared : RequestSpan → List ℕ → CidrValue → (mark : ℕ) → Type 0
IsBared span node cidr mark =
    HasPutBlock span cidr (λ earlier. (read : Option ℕ) × IsReleasing earlier node cidr read mark)

-- ---- the points

-- the request stands at the point
abbrev pub StandsAt : RequestSpan → Point → Type 0
StandsAt span Nowhere = Unit {0}
StandsAt span (Claiming node cidr read kept) = IsClaiming span node cidr read kept
StandsAt span (Claimed node cidr kept) = IsClaimed span node cidr kept
StandsAt span (Releasing node cidr read mark) = IsReleasing span node cidr read mark
StandsAt span (Released node cidr mark) = IsBared span node cidr mark
