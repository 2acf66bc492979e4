-- What a request saw and did, by moments.
use Rattle.std.specs.Prelude.{◌≡◌, ◌≢◌, ℕ, ◌+◌, ◌<◌, ◌⊎◌, Option, Some, Contains, option_map, ◌↔◌}
use Rattle.ipam_addr.specs.Shape.{AddrValue}
use Rattle.ipam_block.specs.declared.allocation.Allocation.{Allocation}
use Rattle.ipam_block.specs.Shape as block
use Rattle.ipam_records.specs.declared.key.Key.{Key}
use Rattle.ipam_records.specs.declared.record.Record.{Record}
use Rattle.ipam_records.specs.declared.record.Record.TheVariants as record_of
use Rattle.ipam_records.specs.Datastore.{Datastore, row_of}
use Rattle.ipam_model.specs.declared.entry.Entry.{Entry}
use Rattle.ipam_model.specs.declared.request.Request.{Request}
use Rattle.ipam_model.specs.Cluster.{ClusterState, RunningRequest}
use Rattle.ipam_model.specs.History.{RequestSpan, seen_at, InSpan}
use Rattle.ipam_model.specs.Owners.{Owner, owner_of, owners}

-- the request that runs in the slot
abbrev pub request_in : ClusterState → ℕ → Option Request
request_in cluster slot = option_map (λ (running : RunningRequest). running.request) (cluster.slots slot)

-- the revision of a key's row, where there is one
abbrev pub revision_of : Datastore → Key → Option ℕ
revision_of store key = option_map (λ row. row.0) (row_of key store.rows)

-- the store has this record under the key
abbrev pub Has : Datastore → Key → Record → Type 0
Has store key found = (revision : ℕ) × (row_of key store.rows ≡ Some (revision, found))

-- the owner's allocation, in the block of some row
pub record Recorded (store : Datastore) (owner : Owner) (a : Allocation) : Type 0 where
  pub revision : ℕ
  pub holding : block.BlockValue
  pub in_rows : Contains store.rows (revision, record_of.Block holding)
  pub held : Contains holding.allocations a
  pub is_owner : owner ≡ owner_of holding.cidr a

abbrev pub Owns : Datastore → Owner → Type 0
Owns store owner = Contains (owners store) owner

-- nobody owns the address
abbrev pub IsUnowned : Datastore → AddrValue → Type 0
IsUnowned store address = (o : Owner) → Owns store o → o.address ≢ address

-- all owners stay, and this one comes, of an address that nobody owned
pub record Gains (old new : Datastore) (owner : Owner) : Type 0 where
  pub was_free : IsUnowned old owner.address
  pub are : (o : Owner) → Owns new o ↔ (Owns old o ⊎ (o ≡ owner))

-- the owners that are lost go, some of them were there, and all others stay
pub record Loses (old new : Datastore) (Lost : Owner → Type 0) : Type 0 where
  pub some : Owner
  pub was_there : Owns old some
  pub is_lost : Lost some
  pub are : (o : Owner) → Owns new o ↔ (Owns old o × ¬ (Lost o))

-- the entry of this moment, one of the slot's since its request began, gave the address to the owner
pub record GainedAt (span : RequestSpan) (moment : ℕ) (owner : Owner) : Type 0 where
  pub there : Entry
  pub in_span : InSpan span moment there
  pub gains : Gains (seen_at span moment) (seen_at span (moment + 1)) owner

abbrev pub GainedInSpan : RequestSpan → Owner → Type 0
GainedInSpan span owner = (moment : ℕ) × GainedAt span moment owner

-- the entry of this moment, one of the slot's since its request began, took it away
pub record LostAt (span : RequestSpan) (moment : ℕ) (owner : Owner) : Type 0 where
  pub there : Entry
  pub in_span : InSpan span moment there
  pub was : Owns (seen_at span moment) owner
  pub is_not : ¬ (Owns (seen_at span (moment + 1)) owner)

abbrev pub LostInSpan : RequestSpan → Owner → Type 0
LostInSpan span owner = (moment : ℕ) × LostAt span moment owner

-- the second moment is that of the slot's next entry after the first, or of the next entry of all
pub record IsNext (span : RequestSpan) (first second : ℕ) : Type 0 where
  pub behind : first < second
  pub nothing_between : (k : ℕ) (there : Entry) → first < k → k < second → ¬ (InSpan span k there)
