-- What holds of several records at once when a datastore is opened, and at every moment from then on.
use Rattle.std.specs.Prelude.{◌≡◌, ◌≤◌, List, [], Option, Some, None, Contains, length}
use Rattle.ipam_addr.specs.Shape.{CidrValue}
use Rattle.ipam_pool.specs.declared.pools.Pool.{Pool}
use Rattle.ipam_pool.specs.Slots.{IsSlotOf}
use Rattle.ipam_records.specs.declared.key.Key.{Key}
use Rattle.ipam_records.specs.declared.key.Key.TheVariants as key
use Rattle.ipam_records.specs.declared.key.Kind.TheVariants as kind
use Rattle.ipam_records.specs.declared.record.Record.TheVariants as record_of
use Rattle.ipam_records.specs.Datastore.{Datastore, most_rows, most_blocks, rows_of_kind, row_key, row_of}
use Rattle.ipam_records.specs.Sound.{IsDatastore}
use Rattle.ipam_model.specs.declared.entry.Entry.{Entry}
use Rattle.ipam_model.specs.AffinityLaw.{AgreesWithAffinities}
use Rattle.ipam_model.specs.CountLaw.{IsCovered}
use Rattle.ipam_model.specs.History.{Base, Lawful, store_at}
use Rattle.ipam_model.specs.Reads.{StoredRecord}

abbrev pub pools_in_row : Option StoredRecord → List Pool
pools_in_row (Some (revision, record_of.Pools pools)) = pools
pools_in_row _ = []

-- the pools among the rows, none where their row is missing
abbrev pub pools_in : List StoredRecord → List Pool
pools_in rows = pools_in_row (row_of key.Pools rows)

-- the CIDR that a key names, where it is a block's or an affinity's
abbrev pub cidr_named : Key → Option CidrValue
cidr_named (key.Block cidr) = Some cidr
cidr_named (key.Affinity node cidr) = Some cidr
cidr_named _ = None

abbrev pub IsSlotOfSome : List Pool → CidrValue → Type 0
IsSlotOfSome pools cidr = (pool : Pool) × Contains pools pool × IsSlotOf pool cidr

-- each block and each affinity lies at a slot of a pool, so no two blocks overlap
abbrev pub LiesAtSlots : Datastore → Type 0
LiesAtSlots store =
    (row : StoredRecord) (cidr : CidrValue) → Contains store.rows row → cidr_named (row_key row) ≡ Some cidr
    → IsSlotOfSome (pools_in store.rows) cidr

pub record IsConsistent (store : Datastore) : Type 0 where
  pub sound : IsDatastore store
  pub at_slots : LiesAtSlots store
  pub covered : IsCovered store
  pub agrees : AgreesWithAffinities store
  pub few_rows : length store.rows ≤ most_rows
  pub few_blocks : length (rows_of_kind kind.Block store) ≤ most_blocks

-- there are not too many rows, nor too many blocks
pub record IsWithinLimits (store : Datastore) : Type 0 where
  pub few_rows : length store.rows ≤ most_rows
  pub few_blocks : length (rows_of_kind kind.Block store) ≤ most_blocks

-- ---- the laws

-- The records stay sound, by ascending keys, at revisions that were given.
abbrev pub SoundLaw : Type 0
SoundLaw = (base : Base) (history : List Entry) → IsDatastore base.store → Lawful base history → IsDatastore (store_at base history)

abbrev pub LimitsLaw : Type 0
LimitsLaw =
    (base : Base) (history : List Entry) → IsDatastore base.store → IsWithinLimits base.store → Lawful base history
    → IsWithinLimits (store_at base history)

-- Pools only grow, so blocks and affinities stay at slots.
abbrev pub SlotsLaw : Type 0
SlotsLaw =
    (base : Base) (history : List Entry) → IsDatastore base.store → LiesAtSlots base.store → Lawful base history
    → LiesAtSlots (store_at base history)

-- Whatever happens, the records stay consistent.
abbrev pub ConsistentLaw : Type 0
ConsistentLaw =
    (base : Base) (history : List Entry) → IsConsistent base.store → Lawful base history
    → IsConsistent (store_at base history)
