-- A block and its affinity agree: no block is confirmed to two nodes.
use Rattle.std.specs.Prelude.{◌≡◌, ◌≢◌, ℕ, ◌⊎◌, List, Option, Some, None}
use Rattle.ipam_addr.specs.Shape.{CidrValue}
use Rattle.ipam_block.specs.Shape as block
use Rattle.ipam_block.specs.declared.state.State.{State}
use Rattle.ipam_block.specs.declared.state.State.TheVariants.{Confirmed, PendingDeletion}
use Rattle.ipam_records.specs.declared.key.Key.{Key}
use Rattle.ipam_records.specs.declared.key.Key.TheVariants as key
use Rattle.ipam_records.specs.declared.record.Record.{Record}
use Rattle.ipam_records.specs.declared.record.Record.TheVariants as record_of
use Rattle.ipam_records.specs.Datastore.{Datastore, row_of}
use Rattle.ipam_records.specs.Label.{Point, Claiming, Claimed, Releasing, Released}
use Rattle.ipam_records.specs.Sound.{IsDatastore}
use Rattle.ipam_records.specs.Word.{label_of}
use Rattle.ipam_model.specs.declared.entry.Entry.{Entry}
use Rattle.ipam_model.specs.Affinities.{affinity}
use Rattle.ipam_model.specs.Cluster.{RunningRequest}
use Rattle.ipam_model.specs.History.{Base, Lawful, cluster_at, store_at, store_before}
use Rattle.ipam_model.specs.Moments.{Has, revision_of}
use Rattle.ipam_model.specs.Points.{StandsAt}

-- ---- the law

abbrev pub HasAffinity : Datastore → List ℕ → CidrValue → State → Type 0
HasAffinity store node cidr state =
    Has store (key.Affinity node cidr) (record_of.Affinity (affinity node cidr state))

-- the block is there with this node
abbrev pub HasNode : Datastore → CidrValue → List ℕ → Type 0
HasNode store cidr node =
    (b : block.BlockValue) × Has store (key.Block cidr) (record_of.Block b) × (b.node ≡ Some node)

pub record AgreesWithAffinities (store : Datastore) : Type 0 where
  -- a block with a node has that node's affinity
  pub of_block : (cidr : CidrValue) (node : List ℕ) → HasNode store cidr node → (state : State) × HasAffinity store node cidr state
  -- a confirmed affinity's block is there with its node
  pub of_affinity : (cidr : CidrValue) (node : List ℕ) → HasAffinity store node cidr Confirmed → HasNode store cidr node

abbrev pub AffinityLaw : Type 0
AffinityLaw =
    (base : Base) (history : List Entry) → IsDatastore base.store → AgreesWithAffinities base.store
    → Lawful base history → AgreesWithAffinities (store_at base history)

-- so a block is confirmed to one node at most
abbrev pub OneNodeLaw : Type 0
OneNodeLaw =
    (base : Base) (history : List Entry) → IsDatastore base.store → AgreesWithAffinities base.store
    → Lawful base history → (cidr : CidrValue) (node other : List ℕ)
    → HasAffinity (store_at base history) node cidr Confirmed → HasAffinity (store_at base history) other cidr Confirmed
    → node ≡ other

-- ---- where the claimers and the releasers stand

abbrev pub HasAt : Datastore → Key → (revision : ℕ) → Record → Type 0
HasAt store key revision found = row_of key store.rows ≡ Some (revision, found)

-- the request of the slot stands at the point, by the calls that it has made
abbrev pub IsAt : Base → List Entry → (slot : ℕ) → Point → Type 0
IsAt base history slot point = StandsAt (record { base = base; history = history; slot = slot }) point

-- the label of what runs in the slot has the point
abbrev pub IsLabelled : Base → List Entry → (slot : ℕ) → Point → Type 0
IsLabelled base history slot point =
    (running : RunningRequest) × ((cluster_at base history).slots slot ≡ Some running) × ((label_of running.word).point ≡ point)

-- the block, or its absence, is as it was read
abbrev pub IsBlockCurrent : Datastore → CidrValue → Option ℕ → Type 0
IsBlockCurrent store cidr read = revision_of store (key.Block cidr) ≡ read

-- the affinity is at the revision that is kept
abbrev pub IsAffinityCurrent : Datastore → List ℕ → CidrValue → ℕ → Type 0
IsAffinityCurrent store node cidr kept = revision_of store (key.Affinity node cidr) ≡ Some kept

-- What holds of the points at which the slots' requests stand, by what is current. A slot stands at a
-- point by the calls that its request has made, or by its label.
pub record PointsAgree (stands : (slot : ℕ) → Point → Type 0) (base : Base) (history : List Entry) : Type 0 where
  -- a claimer whose block is as it read it finds its affinity there, and nobody is about to delete it
  pub claiming : (slot : ℕ) (node : List ℕ) (cidr : CidrValue) (read : Option ℕ) (kept : ℕ)
      → stands slot (Claiming node cidr read kept) → IsBlockCurrent (store_at base history) cidr read
      → (revision : ℕ) × IsAffinityCurrent (store_at base history) node cidr revision
  pub claiming_apart : (slot other : ℕ) (node : List ℕ) (cidr : CidrValue) (read : Option ℕ) (kept mark : ℕ)
      → stands slot (Claiming node cidr read kept) → IsBlockCurrent (store_at base history) cidr read
      → stands other (Released node cidr mark) → ¬ (IsAffinityCurrent (store_at base history) node cidr mark)
  -- a claimer that wrote the block, and whose affinity is as it keeps it, finds its node in the block,
  -- and nobody is about to take it away
  pub claimed : (slot : ℕ) (node : List ℕ) (cidr : CidrValue) (kept : ℕ)
      → stands slot (Claimed node cidr kept) → IsAffinityCurrent (store_at base history) node cidr kept
      → HasNode (store_at base history) cidr node
  pub claimed_apart : (slot other : ℕ) (node : List ℕ) (cidr : CidrValue) (kept : ℕ) (read : Option ℕ) (mark : ℕ)
      → stands slot (Claimed node cidr kept) → IsAffinityCurrent (store_at base history) node cidr kept
      → stands other (Releasing node cidr read mark) → ¬ (IsBlockCurrent (store_at base history) cidr read)
  -- a releaser whose block is as it read it finds no confirmed affinity
  pub releasing : (slot : ℕ) (node : List ℕ) (cidr : CidrValue) (read : Option ℕ) (mark : ℕ)
      → stands slot (Releasing node cidr read mark) → IsBlockCurrent (store_at base history) cidr read
      → ¬ (HasAffinity (store_at base history) node cidr Confirmed)
  -- a releaser that wrote the block, and whose mark is current, finds the affinity still to be deleted
  -- and the block without the node
  pub released : (slot : ℕ) (node : List ℕ) (cidr : CidrValue) (mark : ℕ)
      → stands slot (Released node cidr mark) → IsAffinityCurrent (store_at base history) node cidr mark
      → HasAffinity (store_at base history) node cidr PendingDeletion × ¬ (HasNode (store_at base history) cidr node)

-- at some moment the key had this record at the revision
abbrev pub WasAt : Base → List Entry → Key → (revision : ℕ) → Record → Type 0
WasAt base history key revision found =
    (moment : ℕ) × HasAt (store_before base history moment) key revision found

-- at some moment the block had this revision, and the node or none
abbrev pub WasOwnOrNobodys : Base → List Entry → List ℕ → CidrValue → (revision : ℕ) → Type 0
WasOwnOrNobodys base history node cidr revision =
    (b : block.BlockValue) × WasAt base history (key.Block cidr) revision (record_of.Block b)
    × ((b.node ≡ None) ⊎ (b.node ≡ Some node))

-- at some moment the affinity had this revision, and was to be deleted; or was not
abbrev pub WasToBeDeleted : Base → List Entry → List ℕ → CidrValue → (revision : ℕ) → Type 0
WasToBeDeleted base history node cidr revision =
    WasAt base history (key.Affinity node cidr) revision (record_of.Affinity (affinity node cidr PendingDeletion))

abbrev pub WasToBeKept : Base → List Entry → List ℕ → CidrValue → (revision : ℕ) → Type 0
WasToBeKept base history node cidr revision =
    (state : State) × WasAt base history (key.Affinity node cidr) revision (record_of.Affinity (affinity node cidr state))
    × (state ≢ PendingDeletion)

-- What the revisions were that the points keep, current or not.
pub record PointsKeep (stands : (slot : ℕ) → Point → Type 0) (base : Base) (history : List Entry) : Type 0 where
  -- a claimer reads only blocks with its node or with none, and keeps no affinity that is to be deleted
  pub claims_own : (slot : ℕ) (node : List ℕ) (cidr : CidrValue) (read kept : ℕ)
      → stands slot (Claiming node cidr (Some read) kept) → WasOwnOrNobodys base history node cidr read
  pub claims_kept : (slot : ℕ) (node : List ℕ) (cidr : CidrValue) (read : Option ℕ) (kept : ℕ)
      → stands slot (Claiming node cidr read kept) → WasToBeKept base history node cidr kept
  pub claimed_kept : (slot : ℕ) (node : List ℕ) (cidr : CidrValue) (kept : ℕ)
      → stands slot (Claimed node cidr kept) → WasToBeKept base history node cidr kept
  -- a mark is an affinity that is to be deleted
  pub releasing_marks : (slot : ℕ) (node : List ℕ) (cidr : CidrValue) (read : Option ℕ) (mark : ℕ)
      → stands slot (Releasing node cidr read mark) → WasToBeDeleted base history node cidr mark
  pub released_marks : (slot : ℕ) (node : List ℕ) (cidr : CidrValue) (mark : ℕ)
      → stands slot (Released node cidr mark) → WasToBeDeleted base history node cidr mark

abbrev pub PointsLaw : Type 0
PointsLaw =
    (base : Base) (history : List Entry) → IsDatastore base.store → AgreesWithAffinities base.store
    → Lawful base history → PointsAgree (IsAt base history) base history × PointsKeep (IsAt base history) base history

-- The points that the labels name agree with the store, and are kept.
abbrev pub LabelPointsLaw : Type 0
LabelPointsLaw =
    (base : Base) (history : List Entry) → IsDatastore base.store → AgreesWithAffinities base.store
    → Lawful base history → PointsAgree (IsLabelled base history) base history × PointsKeep (IsLabelled base history) base history

-- ---- one key and one revision have one record

abbrev pub OneRecordLaw : Type 0
OneRecordLaw =
    (base : Base) (history : List Entry) → IsDatastore base.store → Lawful base history
    → (first second : ℕ) (key : Key) (revision : ℕ) (one other : Record)
    → HasAt (store_before base history first) key revision one
    → HasAt (store_before base history second) key revision other → one ≡ other
