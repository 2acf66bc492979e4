-- What an ADD may claim.
use Rattle.std.specs.Prelude.{◌≡◌, ◌≢◌, ◌⊎◌, ℕ, ◌<◌, IsTrue, true, List, ◌∷◌, Some, None, Contains}
use Rattle.ipam_addr.specs.Shape.{AddrValue, CidrValue}
use Rattle.ipam_block.specs.declared.state.State.{State}
use Rattle.ipam_block.specs.declared.state.State.TheVariants.{PendingDeletion}
use Rattle.ipam_records.specs.declared.key.Key.TheVariants as key
use Rattle.ipam_records.specs.Datastore.{Datastore, row_of}
use Rattle.ipam_records.specs.Sound.{IsDatastore}
use Rattle.ipam_model.specs.declared.answer.Scan.{Scan}
use Rattle.ipam_model.specs.declared.choice.Choice.TheVariants.{Claim}
use Rattle.ipam_model.specs.declared.entry.CallName.TheVariants as name
use Rattle.ipam_model.specs.declared.entry.Called.{Called}
use Rattle.ipam_model.specs.declared.entry.Entry.{Entry}
use Rattle.ipam_model.specs.declared.entry.Entry.TheVariants as entry
use Rattle.ipam_model.specs.declared.request.AddRequest.{AddRequest}
use Rattle.ipam_model.specs.declared.request.Request.{Request}
use Rattle.ipam_model.specs.declared.request.Request.TheVariants.{Add, AddThis}
use Rattle.ipam_model.specs.Add.{asked_of}
use Rattle.ipam_model.specs.AddLaw.{HasLooked, LookRevisions, families_of}
use Rattle.ipam_model.specs.AffinityLaw.{HasAffinity}
use Rattle.ipam_model.specs.Affinities.{BlockRead}
use Rattle.ipam_model.specs.Choice.{Candidate, IsCandidate, IsChoice, Seen, block_at, is_unowned_and_empty, may_claim, rank_in}
use Rattle.ipam_model.specs.History.{Base, InSpan, Lawful, RequestSpan, cluster_at, seen_at, seen_now, slot_of_entry, store_at}
use Rattle.ipam_model.specs.Moments.{request_in}
use Rattle.ipam_model.specs.Reads.{block_said}
use Rattle.ipam_model.specs.Rounds.{HasScanned}
use Rattle.ipam_laws.specs.Writes.{node_of}

-- ---- a claim

-- the block gets the node, or the node's affinity to it is written so that it is not to be deleted
pub data IsClaimed (now later : Datastore) (node : List ℕ) (cidr : CidrValue) : Type 0 where
  OfBlock : node_of later cidr ≡ Some node → node_of now cidr ≢ Some node → IsClaimed now later node cidr
  OfAffinity : (state : State) → HasAffinity later node cidr state → state ≢ PendingDeletion
      → row_of (key.Affinity node cidr) later.rows ≢ row_of (key.Affinity node cidr) now.rows → IsClaimed now later node cidr

-- the round of this moment is the last: the configuration, with which each begins, was not read since
abbrev pub IsLastRound : RequestSpan → (moment : ℕ) → Type 0
IsLastRound span moment =
    (later : ℕ) (c : Called) → moment < later → InSpan span later (entry.Called c) → c.call ≢ name.Get key.Config

-- where the block gets the node, it is as it was at the moment
abbrev pub IsStillThere : RequestSpan → (later : Datastore) → CidrValue → (moment : ℕ) → Type 0
IsStillThere span later cidr moment =
    node_of later cidr ≢ node_of (seen_now span) cidr
    → row_of (key.Block cidr) (seen_now span).rows ≡ row_of (key.Block cidr) (seen_at span moment).rows

-- ---- an ADD without an address

-- the block has the node
abbrev pub IsOwnRead : List ℕ → BlockRead → Type 0
IsOwnRead node None = ⊥
IsOwnRead node (Some found) = found.1.node ≡ Some node

-- it is missing, or empty and nobody's
abbrev pub IsBareRead : BlockRead → Type 0
IsBareRead None = Unit {0}
IsBareRead (Some found) = is_unowned_and_empty found.1 ≡ true

-- The last round was for a family that is wanted, and the choice on what it read is to claim this block:
-- the first candidate, by its rank, its pool's place and its number there. No confirmed block of the node
-- had room; and the block was the node's own, or it was bare and the node might have one more.
pub record IsChosenToClaim (span : RequestSpan) (later : Datastore) (add : AddRequest) (cidr : CidrValue) : Type 0 where
  pub scan : Scan
  pub seen : Seen
  pub scanned : HasScanned span scan seen
  pub is_last : IsLastRound span scan.b
  pub wanted : Contains (families_of add) scan.family
  pub chosen : IsChoice (asked_of add scan.family) seen (Claim cidr)
  pub none_with_room : (c : Candidate) → IsCandidate (asked_of add scan.family) seen c → 0 < rank_in c
  pub own_or_more :
      IsOwnRead add.node (block_at seen cidr)
      ⊎ (IsBareRead (block_at seen cidr) × IsTrue (may_claim (asked_of add scan.family) seen))
  pub still_there : IsStillThere span later cidr scan.b

-- ---- an ADD of one address

-- in the last round the block of the address's slot, in a usable pool, was missing, or empty and nobody's
pub record IsAskedToClaim (span : RequestSpan) (later : Datastore) (add : AddRequest) (address : AddrValue) (cidr : CidrValue) : Type 0 where
  pub at : LookRevisions
  pub looked : HasLooked span add address at
  pub is_block : looked.cidr ≡ cidr
  pub is_last : IsLastRound span at.b
  pub was_bare : IsBareRead (block_said looked.block)
  pub still_there : IsStillThere span later cidr at.b

-- ---- the law

-- an ADD of this node, by what it had read last
pub data ClaimsRight (span : RequestSpan) (later : Datastore) (request : Request) (node : List ℕ) (cidr : CidrValue) : Type 0 where
  ByChoice : (add : AddRequest) → request ≡ Add add → node ≡ add.node → IsChosenToClaim span later add cidr → ClaimsRight span later request node cidr
  ByAddress : (add : AddRequest) (address : AddrValue) → request ≡ AddThis add address → node ≡ add.node → IsAskedToClaim span later add address cidr → ClaimsRight span later request node cidr

-- what is claimed by the slot's next entry is claimed by its request, and right
abbrev pub ClaimsOnlyRight : RequestSpan → (later : Datastore) → Type 0
ClaimsOnlyRight span later =
    (node : List ℕ) (cidr : CidrValue) → IsClaimed (seen_now span) later node cidr
    → (request : Request) × (request_in (cluster_at span.base span.history) span.slot ≡ Some request)
    × ClaimsRight span later request node cidr

abbrev pub ClaimsLaw : Type 0
ClaimsLaw =
    (base : Base) (history : List Entry) (new : Entry) → IsDatastore base.store → Lawful base (new ∷ history)
    → ClaimsOnlyRight (record { base = base; history = history; slot = slot_of_entry new }) (store_at base (new ∷ history))
