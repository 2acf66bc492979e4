-- In which ways owners may change.
use Rattle.std.specs.Prelude.{◌≡◌, ℕ, ◌+◌, ◌<◌, ◌≤◌, ◌⊎◌, IsTrue, false, List, ◌∷◌, Some}
use Rattle.ipam_addr.specs.Shape.{CidrValue}
use Rattle.ipam_addr.specs.Holding.{Holds}
use Rattle.ipam_block.specs.declared.allocation.Allocation.{Allocation}
use Rattle.ipam_records.specs.declared.call.Call.TheVariants.{List as ListAll}
use Rattle.ipam_block.specs.Shape as block
use Rattle.ipam_records.specs.Datastore.{Datastore}
use Rattle.ipam_records.specs.declared.key.Key.TheVariants as key
use Rattle.ipam_records.specs.declared.key.Kind.TheVariants as kind
use Rattle.ipam_records.specs.declared.record.Record.TheVariants as record_of
use Rattle.ipam_records.specs.Said.{Said}
use Rattle.ipam_model.specs.declared.entry.Entry.{Entry}
use Rattle.ipam_model.specs.declared.entry.Entry.TheVariants as entry
use Rattle.ipam_model.specs.declared.request.AddRequest.{AddRequest}
use Rattle.ipam_model.specs.declared.request.CollectRequest.{CollectRequest}
use Rattle.ipam_model.specs.declared.request.Request.{Request}
use Rattle.ipam_model.specs.declared.request.Request.TheVariants.{Add, AddThis, Del, Collect}
use Rattle.ipam_model.specs.Consistent.{IsConsistent}
use Rattle.ipam_model.specs.History.{Base, RequestSpan, cluster_at, store_at, seen_at, seen_now, slot_of_entry, Lawful, InSpan, HeardCall}
use Rattle.ipam_model.specs.Moments.{Has, request_in, Recorded, Owns, Gains, Loses, GainedInSpan}
use Rattle.ipam_model.specs.Owners.{AreInOrder, Owner, owners}
use Rattle.ipam_model.specs.Remove.{is_live, is_in_scope}

-- ---- no address has two owners

-- In a consistent datastore, and so at every moment, the owners are listed by family and address, and
-- no address twice.
abbrev pub OwnersOrderLaw : Type 0
OwnersOrderLaw = (store : Datastore) → IsConsistent store → AreInOrder (owners store)

-- so whoever own one address at a moment are one owner
abbrev pub OneOwnerLaw : Type 0
OneOwnerLaw =
    (base : Base) (history : List Entry) → IsConsistent base.store → Lawful base history
    → (one other : Owner) → Owns (store_at base history) one → Owns (store_at base history) other
    → one.address ≡ other.address → one ≡ other

-- ---- what a collection may take

-- What a collection went by: its two lists of blocks with their moments, and the second list of live
-- handles, which came between them and late enough.
pub record Collecting (span : RequestSpan) (request : CollectRequest) : Type 0 where
  pub b1 : ℕ
  pub b2 : ℕ
  pub fed_at : ℕ
  pub time : ℕ
  pub live : List (List ℕ)
  pub first : Said
  pub second : Said
  pub first_list : HeardCall span b1 (ListAll kind.Block) first
  pub second_list : HeardCall span b2 (ListAll kind.Block) second
  pub fed : InSpan span fed_at (entry.Fed span.slot time live)
  pub fed_after : b1 < fed_at
  pub listed_after : fed_at < b2
  pub late_enough : request.at + request.grace ≤ time

-- An owner in scope at both moments, whose handle is in neither list of live handles.
pub record IsLeak (span : RequestSpan) (request : CollectRequest) (c : Collecting span request) (owner : Owner) : Type 0 where
  pub allocation : Allocation
  pub at_first : Recorded (seen_at span c.b1) owner allocation
  pub in_scope : IsTrue (is_in_scope request.scope allocation)
  pub at_second : Owns (seen_at span c.b2) owner
  pub not_live : is_live request.live owner.handle ≡ false
  pub not_live_still : is_live c.live owner.handle ≡ false

-- ---- the ways

-- the request may record an address to this handle
abbrev pub MayGain : Request → Owner → Type 0
MayGain (Add request) owner = owner.handle ≡ request.attributes.handle
MayGain (AddThis request address) owner =
    (owner.handle ≡ request.attributes.handle) × (owner.address ≡ address)
MayGain _ owner = ⊥

-- all that the handle owns in the block
pub record IsHeldIn (cidr : CidrValue) (id : List ℕ) (owner : Owner) : Type 0 where
  pub inside : Holds cidr owner.address
  pub own : owner.handle ≡ id

-- from the slot's span, with this request, to the store after its next entry
pub data OwnersChange (span : RequestSpan) (request : Request) (later : Datastore) : Type 0 where
  Assigned : (owner : Owner) → MayGain request owner → Gains (seen_now span) later owner → OwnersChange span request later
  Deleted : (id : List ℕ) (b : block.BlockValue) → request ≡ Del id → Has (seen_now span) (key.Block b.cidr) (record_of.Block b)
      → Loses (seen_now span) later (IsHeldIn b.cidr id) → OwnersChange span request later
  Undone : (add : AddRequest) (owner : Owner) → request ≡ Add add → GainedInSpan span owner
      → Loses (seen_now span) later (λ o. o ≡ owner) → OwnersChange span request later
  Collected : (collect : CollectRequest) (owner : Owner) → request ≡ Collect collect
      → (c : Collecting span collect) → IsLeak span collect c owner
      → Loses (seen_now span) later (λ o. o ≡ owner) → OwnersChange span request later

-- The owners stay as they are, or change in one of these ways by the request that runs.
abbrev pub OwnersMove : RequestSpan → (later : Datastore) → Type 0
OwnersMove span later =
    (owners later ≡ owners (seen_now span))
    ⊎ ((request : Request) × (request_in (cluster_at span.base span.history) span.slot ≡ Some request) × OwnersChange span request later)

abbrev pub OwnersLaw : Type 0
OwnersLaw =
    (base : Base) (history : List Entry) (new : Entry) → IsConsistent base.store → Lawful base (new ∷ history)
    → OwnersMove (record { base = base; history = history; slot = slot_of_entry new }) (store_at base (new ∷ history))
