-- Which records and datastores are sound. What is sound of each kind of record stands with the kind.
use Rattle.std.specs.Prelude.{ℕ, ◌<◌, ◌≤◌, List, map, All, IsTrue}
use Rattle.std.specs.List.Sorted.{IsStrictlySortedBy}
use Rattle.ipam_addr.specs.Names.{is_name_text, is_handle_text}
use Rattle.ipam_record_text.specs.Config.{IsConfigRecord}
use Rattle.ipam_records.specs.declared.record.Record.{Record}
use Rattle.ipam_records.specs.declared.record.Record.TheVariants as record_of
use Rattle.ipam_records.specs.KeyOrder.{key_cmp}
use Rattle.ipam_records.specs.Datastore.{Datastore, last_revision, row_key}
pub use Rattle.ipam_block.specs.Sound.{IsBlockCidr, IsPair, AreAttributes, IsNode, IsBlockRecord}
pub use Rattle.ipam_block.specs.HandleSound.{IsHandleRecord}
pub use Rattle.ipam_record_text.specs.Affinity.{IsAffinityRecord}
pub use Rattle.ipam_record_text.specs.Pools.{IsPoolsRecord}
pub use Rattle.ipam_record_text.specs.Reservations.{IsReservation, IsReservationsRecord}

abbrev pub IsName : List ℕ → Type 0
IsName text = IsTrue (is_name_text text)

abbrev pub IsHandleId : List ℕ → Type 0
IsHandleId text = IsTrue (is_handle_text text)

-- the record keeps the limits, and holds together
abbrev pub IsRecord : Record → Type 0
IsRecord (record_of.Config config) = IsConfigRecord config
IsRecord (record_of.Pools pools) = IsPoolsRecord pools
IsRecord (record_of.Reservations reservations) = IsReservationsRecord reservations
IsRecord (record_of.Block block) = IsBlockRecord block
IsRecord (record_of.Affinity affinity) = IsAffinityRecord affinity
IsRecord (record_of.Handle handle) = IsHandleRecord handle

-- a block is written less often than the datastore
abbrev pub IsCountedBelow : ℕ → Record → Type 0
IsCountedBelow revision (record_of.Block block) = block.sequence < revision
IsCountedBelow revision _ = Unit {0}

pub record IsRow (counter : ℕ) (row : ℕ × Record) : Type 0 where
  pub is_record : IsRecord row.1
  pub some : 0 < row.0
  pub given : row.0 ≤ counter
  pub counted : IsCountedBelow row.0 row.1

-- each row is sound, and the keys ascend, so each key has one row
pub record IsDatastore (store : Datastore) : Type 0 where
  pub rows : All (IsRow store.counter) store.rows
  pub ascending : IsStrictlySortedBy key_cmp (map row_key store.rows)
  pub counted : store.counter ≤ last_revision
