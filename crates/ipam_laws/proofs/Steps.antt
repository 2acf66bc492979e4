-- What a call of a request may do: the kinds of steps, from where the request stands before the call
-- to where it stands after it.
use Rattle.std.proofs.Common.{◌≡◌, ◌≢◌, ◌⊎◌, inl, inr, ℕ, suc, ◌+◌, ◌-◌, ◌<◌, true, List, [], ◌∷◌, Some, None}
use Rattle.std.specs.Prelude.{Contains}
use Rattle.std.specs.List.{count_by}
use Rattle.ipam_addr.specs.Shape.{AddrValue, CidrValue}
use Rattle.ipam_block.specs.declared.state.State.{State}
use Rattle.ipam_block.specs.declared.state.State.TheVariants.{Pending, Confirmed, PendingDeletion}
use Rattle.ipam_addr.specs.Holding.{holds_address}
use Rattle.ipam_pool.specs.declared.pools.Pool.{Pool}
use Rattle.ipam_pool.specs.Slots.{IsSlotOf}
use Rattle.ipam_block.specs.declared.allocation.Allocation.{Allocation}
use Rattle.ipam_block.specs.declared.allocation.Attributes.{Attributes}
use Rattle.ipam_block.specs.Operations.{fresh_block, next_block, affine_to, block_with_ordinal, block_without, holder, is_owned}
use Rattle.ipam_block.specs.Shape as block
use Rattle.ipam_block.specs.HandleOperations.{content, count_of, with_raised_count, with_lowered_count}
use Rattle.ipam_block.specs.HandleShape as handle
use Rattle.ipam_records.specs.declared.call.Write.TheVariants.{Put, Remove}
use Rattle.ipam_records.specs.declared.key.Key.TheVariants as key
use Rattle.ipam_records.specs.declared.record.Record.{Record}
use Rattle.ipam_records.specs.declared.record.Record.TheVariants as record_of
use Rattle.ipam_records.specs.Datastore.{Datastore, reply_to_get, row_of, written}
use Rattle.ipam_records.specs.Label.{CallLabel, Credit, idle, owing, standing, Claiming, Claimed, Releasing, Released}
use Rattle.ipam_records.specs.Sound.{IsName, IsHandleId, AreAttributes}
use Rattle.ipam_model.specs.declared.request.Admin.{Admin}
use Rattle.ipam_model.specs.AddThis.{slot_holding}
use Rattle.ipam_model.specs.SoundRequest.{IsSoundChange}
use Rattle.ipam_model.specs.Admin.{Becomes, admin_change, key_changed}
use Rattle.ipam_model.specs.Affinities.{BlockRead, Tie, affinity, other_node, revision_read}
use Rattle.ipam_model.specs.AffinityLaw.{HasAt}
use Rattle.ipam_model.specs.Assigning.{Target}
use Rattle.ipam_model.specs.Counting.{FreedOfHandle, credit_of, most_count}
use Rattle.ipam_laws.proofs.Lift.{Known, Grows}

-- ---- what was read

-- a block was read as known, with its CIDR, or was missing
abbrev pub IsKnownBlock : Known → CidrValue → BlockRead → Type 0
IsKnownBlock known cidr None = Unit {0}
IsKnownBlock known cidr (Some found) = (found.1.cidr ≡ cidr) × known (key.Block cidr) found.0 (record_of.Block found.1)

-- it had this node or none
abbrev pub IsOwnOrNobodys : List ℕ → BlockRead → Type 0
IsOwnOrNobodys node None = Unit {0}
IsOwnOrNobodys node (Some found) = (found.1.node ≡ None) ⊎ (found.1.node ≡ Some node)

abbrev pub IsKnownPool : Known → Pool → Type 0
IsKnownPool known pool = (revision : ℕ) × (pools : List Pool) × known key.Pools revision (record_of.Pools pools) × Contains pools pool

-- the CIDR is a slot of the pool: one of its numbers, or the one that holds an address of the pool
abbrev pub IsSlotIn : Pool → CidrValue → Type 0
IsSlotIn pool cidr = IsSlotOf pool cidr ⊎ ((address : AddrValue) × (holds_address pool.cidr address ≡ true) × (cidr ≡ slot_holding pool address))

abbrev pub IsKnownSlot : Known → CidrValue → Type 0
IsKnownSlot known cidr = (pool : Pool) × IsKnownPool known pool × IsSlotIn pool cidr

-- What is claimed is a slot, for a node that has a name. Its block was read as known, with the node or
-- with none.
pub record IsClaimable (known : Known) (node : List ℕ) (cidr : CidrValue) (read : BlockRead) : Type 0 where
  pub was_read : IsKnownBlock known cidr read
  pub own : IsOwnOrNobodys node read
  pub name : IsName node
  pub slot : IsKnownSlot known cidr

-- the ordinal is queued, or is that of an address which nobody holds in the slot that holds it
abbrev pub IsFree : Known → Target → Type 0
IsFree known target =
    Contains target.block.queue target.ordinal
    ⊎ ((holder target.block target.ordinal ≡ None) × (pool : Pool) × (address : AddrValue) × IsKnownPool known pool × (holds_address pool.cidr address ≡ true)
    × (target.block.cidr ≡ slot_holding pool address) × (target.ordinal ≡ address.number - target.block.cidr.base))

-- the handle's id is one, and the block that it is to count is known
pub record IsCountable (known : Known) (id : List ℕ) (cidr : CidrValue) : Type 0 where
  pub name : IsHandleId id
  pub revision : ℕ
  pub b : block.BlockValue
  pub is_of : b.cidr ≡ cidr
  pub was_read : known (key.Block cidr) revision (record_of.Block b)

-- the affinity is known to have been marked
abbrev pub IsMarked : Known → Tie → (mark : ℕ) → Type 0
IsMarked known tie mark = known (key.Affinity tie.node tie.block) mark (record_of.Affinity (affinity tie.node tie.block PendingDeletion))

-- the block is there as it was read, or is missing as it was
abbrev pub IsAsRead : Datastore → CidrValue → BlockRead → Type 0
IsAsRead store cidr None = row_of (key.Block cidr) store.rows ≡ None
IsAsRead store cidr (Some found) = (found.1.cidr ≡ cidr) × HasAt store (key.Block cidr) found.0 (record_of.Block found.1)

abbrev pub HasAffinityAt : Datastore → Tie → (revision : ℕ) → State → Type 0
HasAffinityAt store tie revision state =
    HasAt store (key.Affinity tie.node tie.block) revision (record_of.Affinity (affinity tie.node tie.block state))

-- the handle is there, or is missing and stands for one without counts
abbrev pub IsHandle : Datastore → List ℕ → handle.HandleValue → Type 0
IsHandle store id h =
    ((row_of (key.Handle id) store.rows ≡ None) × (h ≡ content id []))
    ⊎ ((revision : ℕ) × HasAt store (key.Handle id) revision (record_of.Handle h) × (h.id ≡ id))

-- what is picked is the handle's own
abbrev pub OwnPicks : FreedOfHandle → Type 0
OwnPicks what = (a : Allocation) → what.picks a ≡ true → is_owned what.handle a ≡ true

-- ---- what is written

-- the store after a write of this record
abbrev pub IsPut : (store next : Datastore) → Record → Type 0
IsPut store next new = next ≡ written store (Put (store.counter + 1) new)

-- the block as it was read, with the node, or a fresh one where it was missing
abbrev pub taken : List ℕ → CidrValue → BlockRead → block.BlockValue
taken node cidr None = fresh_block cidr (Some node)
taken node cidr (Some found) = affine_to (Some node) (next_block found.1)

-- without the node
abbrev pub bared : List ℕ → CidrValue → BlockRead → block.BlockValue
bared node cidr None = fresh_block cidr None
bared node cidr (Some found) = affine_to (other_node node found.1.node) (next_block found.1)

abbrev pub at_claiming : Tie → BlockRead → (kept : ℕ) → CallLabel
at_claiming tie read kept = standing (Claiming tie.node tie.block (revision_read read) kept)

abbrev pub at_claimed : Tie → (kept : ℕ) → CallLabel
at_claimed tie kept = standing (Claimed tie.node tie.block kept)

abbrev pub at_releasing : Tie → BlockRead → (mark : ℕ) → CallLabel
at_releasing tie read mark = standing (Releasing tie.node tie.block (revision_read read) mark)

abbrev pub at_released : Tie → (mark : ℕ) → CallLabel
at_released tie mark = standing (Released tie.node tie.block mark)

-- ---- the kinds

pub data Step (known : Known) (store next : Datastore) (label after : CallLabel) : Type 0 where
  -- nothing is written, and the request stands nowhere, or goes on owing
  Idles : next ≡ store → after ≡ idle → Step known store next label after
  Owes : (credit : Credit) → next ≡ store → label ≡ owing credit → after ≡ owing credit → Step known store next label after
  -- a claim finds its affinity, or writes it
  Finds : (tie : Tie) (read : BlockRead) (kept : ℕ) (state : State) → next ≡ store → label ≡ idle → after ≡ at_claiming tie read kept
      → HasAffinityAt store tie kept state → state ≢ PendingDeletion → IsClaimable known tie.node tie.block read
      → Step known store next label after
  Starts : (tie : Tie) (read : BlockRead) → IsPut store next (record_of.Affinity (affinity tie.node tie.block Pending)) → label ≡ idle → after ≡ at_claiming tie read (store.counter + 1)
      → IsClaimable known tie.node tie.block read → Step known store next label after
  -- the block is taken
  Takes : (tie : Tie) (read : BlockRead) (kept : ℕ) → IsPut store next (record_of.Block (taken tie.node tie.block read)) → label ≡ at_claiming tie read kept → after ≡ at_claimed tie kept
      → IsAsRead store tie.block read → IsClaimable known tie.node tie.block read → Step known store next label after
  Confirms : (tie : Tie) (kept : ℕ) (found : Record) → IsPut store next (record_of.Affinity (affinity tie.node tie.block Confirmed)) → label ≡ at_claimed tie kept → after ≡ idle
      → HasAt store (key.Affinity tie.node tie.block) kept found → Step known store next label after
  -- an affinity is marked, and found at its mark
  Marks : (tie : Tie) (revision : ℕ) (found : Record) → IsPut store next (record_of.Affinity (affinity tie.node tie.block PendingDeletion)) → label ≡ idle → after ≡ idle
      → HasAt store (key.Affinity tie.node tie.block) revision found → Step known store next label after
  Looks : (tie : Tie) (read : BlockRead) (mark : ℕ) → next ≡ store → label ≡ idle → after ≡ at_releasing tie read mark
      → HasAffinityAt store tie mark PendingDeletion → IsKnownBlock known tie.block read → Step known store next label after
  -- its block is bared
  Bares : (tie : Tie) (read : BlockRead) (mark : ℕ) → IsPut store next (record_of.Block (bared tie.node tie.block read)) → label ≡ at_releasing tie read mark → after ≡ at_released tie mark
      → IsAsRead store tie.block read → IsMarked known tie mark → Step known store next label after
  Deletes : (tie : Tie) (mark : ℕ) (found : Record) → next ≡ written store (Remove (store.counter + 1) (key.Affinity tie.node tie.block)) → label ≡ at_released tie mark → after ≡ idle
      → HasAt store (key.Affinity tie.node tie.block) mark found → Step known store next label after
  -- a count is raised, or lowered
  Raises : (id : List ℕ) (cidr : CidrValue) (h : handle.HandleValue) → IsPut store next (record_of.Handle (with_raised_count h cidr 1)) → label ≡ idle → after ≡ owing (credit_of id cidr 1)
      → IsHandle store id h → count_of h cidr < most_count → IsCountable known id cidr → Step known store next label after
  Lowers : (credit : Credit) (h : handle.HandleValue) (revision : ℕ) (first : CidrValue × ℕ) (rest : List (CidrValue × ℕ)) → IsPut store next (record_of.Handle (with_lowered_count h credit.block credit.amount)) → label ≡ owing credit → after ≡ idle
      → HasAt store (key.Handle credit.handle) revision (record_of.Handle h) → h.id ≡ credit.handle → (with_lowered_count h credit.block credit.amount).counts ≡ first ∷ rest → Step known store next label after
  LowersOut : (credit : Credit) (h : handle.HandleValue) (revision : ℕ) → next ≡ written store (Remove (store.counter + 1) (key.Handle h.id)) → label ≡ owing credit → after ≡ idle
      → HasAt store (key.Handle credit.handle) revision (record_of.Handle h) → h.id ≡ credit.handle → (with_lowered_count h credit.block credit.amount).counts ≡ [] → Step known store next label after
  -- what a handle holds is freed in its block, or an address of a block assigned
  Frees : (what : FreedOfHandle) (amount revision : ℕ) (b : block.BlockValue) → IsPut store next (record_of.Block (block_without what.picks (next_block b))) → label ≡ idle → after ≡ owing (credit_of what.handle what.block (suc amount))
      → HasAt store (key.Block what.block) revision (record_of.Block b) → b.cidr ≡ what.block → OwnPicks what → count_by what.picks b.allocations ≡ suc amount → Step known store next label after
  Assigns : (attributes : Attributes) (target : Target) → IsPut store next (record_of.Block (block_with_ordinal (next_block target.block) target.ordinal attributes)) → label ≡ owing (credit_of attributes.handle target.block.cidr 1) → after ≡ idle
      → HasAt store (key.Block target.block.cidr) target.revision (record_of.Block target.block) → AreAttributes attributes → IsFree known target → Step known store next label after
  -- an operator's change, of what is there
  Changes : (request : Admin) (new : Record) → IsPut store next new → label ≡ idle → after ≡ idle
      → admin_change request (reply_to_get (row_of (key_changed request) store.rows)) ≡ Becomes new → IsSoundChange request → Step known store next label after

-- ---- more may be known

pub known-block-grows : (known other : Known) (cidr : CidrValue) (read : BlockRead) → Grows known other → IsKnownBlock known cidr read → IsKnownBlock other cidr read
known-block-grows known other cidr None grows h = tt
known-block-grows known other cidr (Some found) grows h = (h.0, grows (key.Block cidr) found.0 (record_of.Block found.1) h.1)

pub known-pool-grows : (known other : Known) (pool : Pool) → Grows known other → IsKnownPool known pool → IsKnownPool other pool
known-pool-grows known other pool grows (revision, pools, was, has) = (revision, pools, grows key.Pools revision (record_of.Pools pools) was, has)

pub known-slot-grows : (known other : Known) (cidr : CidrValue) → Grows known other → IsKnownSlot known cidr → IsKnownSlot other cidr
known-slot-grows known other cidr grows (pool, was, is) = (pool, known-pool-grows known other pool grows was, is)

pub claimable-grows : (known other : Known) (node : List ℕ) (cidr : CidrValue) (read : BlockRead) → Grows known other → IsClaimable known node cidr read → IsClaimable other node cidr read
claimable-grows known other node cidr read grows h = record {
  was_read = known-block-grows known other cidr read grows h.was_read;
  own = h.own;
  name = h.name;
  slot = known-slot-grows known other cidr grows h.slot;
}

pub free-grows : (known other : Known) (target : Target) → Grows known other → IsFree known target → IsFree other target
free-grows known other target grows (inl queued) = inl queued
free-grows known other target grows (inr (free, pool, address, was, holds, slot, ordinal)) = inr (free, pool, address, known-pool-grows known other pool grows was, holds, slot, ordinal)

pub countable-grows : (known other : Known) (id : List ℕ) (cidr : CidrValue) → Grows known other → IsCountable known id cidr → IsCountable other id cidr
countable-grows known other id cidr grows h = record {
  name = h.name;
  revision = h.revision;
  b = h.b;
  is_of = h.is_of;
  was_read = grows (key.Block cidr) h.revision (record_of.Block h.b) h.was_read;
}

pub step-grows : (known other : Known) (store next : Datastore) (label after : CallLabel) → Grows known other → Step known store next label after → Step other store next label after
step-grows known other store next label after grows (Idles a b) = Idles a b
step-grows known other store next label after grows (Owes credit a b c) = Owes credit a b c
step-grows known other store next label after grows (Finds tie read kept state a b c d e f) = Finds tie read kept state a b c d e (claimable-grows known other tie.node tie.block read grows f)
step-grows known other store next label after grows (Starts tie read a b c d) = Starts tie read a b c (claimable-grows known other tie.node tie.block read grows d)
step-grows known other store next label after grows (Takes tie read kept a b c d e) = Takes tie read kept a b c d (claimable-grows known other tie.node tie.block read grows e)
step-grows known other store next label after grows (Confirms tie kept found a b c d) = Confirms tie kept found a b c d
step-grows known other store next label after grows (Marks tie revision found a b c d) = Marks tie revision found a b c d
step-grows known other store next label after grows (Looks tie read mark a b c d e) = Looks tie read mark a b c d (known-block-grows known other tie.block read grows e)
step-grows known other store next label after grows (Bares tie read mark a b c d e) = Bares tie read mark a b c d (grows (key.Affinity tie.node tie.block) mark (record_of.Affinity (affinity tie.node tie.block PendingDeletion)) e)
step-grows known other store next label after grows (Deletes tie mark found a b c d) = Deletes tie mark found a b c d
step-grows known other store next label after grows (Raises id cidr h a b c d e f) = Raises id cidr h a b c d e (countable-grows known other id cidr grows f)
step-grows known other store next label after grows (Lowers credit h revision first rest a b c d e f) = Lowers credit h revision first rest a b c d e f
step-grows known other store next label after grows (LowersOut credit h revision a b c d e f) = LowersOut credit h revision a b c d e f
step-grows known other store next label after grows (Frees what amount revision b s t u v w x y) = Frees what amount revision b s t u v w x y
step-grows known other store next label after grows (Assigns attributes target a b c d e f) = Assigns attributes target a b c d e (free-grows known other target grows f)
step-grows known other store next label after grows (Changes request new a b c d e) = Changes request new a b c d e
