-- What each request may write.
use Rattle.std.specs.Prelude.{◌≡◌, ◌⊎◌, ℕ, List, ◌∷◌, Option, Some, None}
use Rattle.ipam_addr.specs.Shape.{CidrValue}
use Rattle.ipam_block.specs.declared.state.State.{State}
use Rattle.ipam_block.specs.declared.state.State.TheVariants.{Confirmed, Pending, PendingDeletion}
use Rattle.ipam_records.specs.declared.key.Key.{Key}
use Rattle.ipam_records.specs.declared.key.Key.TheVariants as key
use Rattle.ipam_records.specs.declared.record.Record.TheVariants as record_of
use Rattle.ipam_records.specs.Datastore.{Datastore, row_of}
use Rattle.ipam_records.specs.Sound.{IsDatastore}
use Rattle.ipam_model.specs.declared.entry.Entry.{Entry}
use Rattle.ipam_model.specs.declared.request.AddRequest.{AddRequest}
use Rattle.ipam_model.specs.declared.request.Request.{Request}
use Rattle.ipam_model.specs.declared.request.Request.TheVariants.{Add, AddThis, Del, Check, Release, Collect, Admin, Probe}
use Rattle.ipam_model.specs.Admin.{key_changed}
use Rattle.ipam_model.specs.AffinityLaw.{HasAffinity}
use Rattle.ipam_model.specs.AnswerLaw.{IsAddWith}
use Rattle.ipam_model.specs.History.{Base, Lawful, RequestSpan, cluster_at, seen_now, slot_of_entry, store_at}
use Rattle.ipam_model.specs.Moments.{request_in}
use Rattle.ipam_model.specs.Reads.{StoredRecord}

-- ---- whose rows

-- a block, the handle of the request, or an affinity of its node
abbrev pub IsForAdd : AddRequest → Key → Type 0
IsForAdd add (key.Block cidr) = Unit {0}
IsForAdd add (key.Handle id) = id ≡ add.attributes.handle
IsForAdd add (key.Affinity node cidr) = node ≡ add.node
IsForAdd add _ = ⊥

-- a block, or this handle
abbrev pub IsForDel : List ℕ → Key → Type 0
IsForDel id (key.Block cidr) = Unit {0}
IsForDel id (key.Handle other) = other ≡ id
IsForDel id _ = ⊥

-- a block, or a handle
abbrev pub IsForCollect : Key → Type 0
IsForCollect (key.Block cidr) = Unit {0}
IsForCollect (key.Handle id) = Unit {0}
IsForCollect _ = ⊥

-- the rows that a request may write: only an operator's writes a setting, and that one alone
abbrev pub MayWrite : Request → Key → Type 0
MayWrite (Add add) written = IsForAdd add written
MayWrite (AddThis add address) written = IsForAdd add written
MayWrite (Del id) written = IsForDel id written
MayWrite (Check id addresses) written = ⊥
MayWrite (Release node cidr) written = (written ≡ key.Affinity node cidr) ⊎ (written ≡ key.Block cidr)
MayWrite (Collect collect) written = IsForCollect written
MayWrite (Admin change) written = written ≡ key_changed change
MayWrite (Probe probe) written = ⊥

-- the rows that it may delete: a handle's, and the affinity that it releases
abbrev pub MayDelete : Request → Key → Type 0
MayDelete request (key.Handle id) = MayWrite request (key.Handle id)
MayDelete request (key.Affinity node cidr) = request ≡ Release node cidr
MayDelete request _ = ⊥

-- ---- affinities and nodes

-- an ADD of this node
abbrev pub IsAddOf : Request → List ℕ → Type 0
IsAddOf request node = (add : AddRequest) × IsAddWith request add × (node ≡ add.node)

-- an affinity becomes one to be deleted by its release, and any other by an ADD of its node
abbrev pub MaySet : Request → List ℕ → CidrValue → State → Type 0
MaySet request node cidr PendingDeletion = request ≡ Release node cidr
MaySet request node cidr Pending = IsAddOf request node
MaySet request node cidr Confirmed = IsAddOf request node

abbrev pub node_in_row : Option StoredRecord → Option (List ℕ)
node_in_row (Some (revision, record_of.Block b)) = b.node
node_in_row _ = None

-- the node of the block, none where it has none or is missing
abbrev pub node_of : Datastore → CidrValue → Option (List ℕ)
node_of store cidr = node_in_row (row_of (key.Block cidr) store.rows)

-- a block keeps its node, or gets that of an ADD, or loses the one that is released
pub data NodeMove (request : Request) (now later : Datastore) (cidr : CidrValue) : Type 0 where
  Keeps : node_of later cidr ≡ node_of now cidr → NodeMove request now later cidr
  Gets : (node : List ℕ) → IsAddOf request node → node_of later cidr ≡ Some node → NodeMove request now later cidr
  Loses : (node : List ℕ) → request ≡ Release node cidr → node_of now cidr ≡ Some node → node_of later cidr ≡ None → NodeMove request now later cidr

-- ---- the law

-- the row of this key is one that the request may write, and it wrote it as it may
pub record IsOwnWrite (request : Request) (now later : Datastore) (written : Key) : Type 0 where
  pub may_write : MayWrite request written
  pub may_delete : row_of written later.rows ≡ None → MayDelete request written
  pub affinity : (node : List ℕ) (cidr : CidrValue) (state : State) → written ≡ key.Affinity node cidr → HasAffinity later node cidr state → MaySet request node cidr state
  pub node : (cidr : CidrValue) → written ≡ key.Block cidr → NodeMove request now later cidr

-- from the slot's span to the store after its next entry, each row stays, or the request that runs
-- wrote it as it may
abbrev pub WritesOwn : RequestSpan → (later : Datastore) → Type 0
WritesOwn span later =
    (written : Key) → (row_of written later.rows ≡ row_of written (seen_now span).rows)
    ⊎ ((request : Request) × (request_in (cluster_at span.base span.history) span.slot ≡ Some request)
    × IsOwnWrite request (seen_now span) later written)

abbrev pub WritesLaw : Type 0
WritesLaw =
    (base : Base) (history : List Entry) (new : Entry) → IsDatastore base.store → Lawful base (new ∷ history)
    → WritesOwn (record { base = base; history = history; slot = slot_of_entry new }) (store_at base (new ∷ history))
