-- Which writes may be applied.
use Rattle.std.specs.Prelude.{◌≡◌, ◌<◌, length, IsTrue, Some}
use Rattle.ipam_records.specs.declared.key.Kind.TheVariants as kind
use Rattle.ipam_records.specs.declared.record.Record.{Record}
use Rattle.ipam_records.specs.declared.call.Call.{Call}
use Rattle.ipam_records.specs.declared.call.Write.{Write}
use Rattle.ipam_records.specs.declared.call.Write.TheVariants.{Put, Remove}
use Rattle.ipam_records.specs.Key.{key_of}
use Rattle.ipam_records.specs.KeyOrder.{is_of_kind}
use Rattle.ipam_records.specs.Datastore.{Datastore, reply_of, write_granted, rows_of_kind, most_rows, most_blocks}
use Rattle.ipam_records.specs.Sound.{IsRecord, IsCountedBelow}

-- the datastore answers to some call that this write may be applied
pub record IsGranted (store : Datastore) (write : Write) : Type 0 where
  pub call : Call
  pub is : write_granted call (reply_of store call) ≡ Some write

-- the record that is written is sound
abbrev pub IsSoundWrite : Write → Type 0
IsSoundWrite (Put revision new) = IsRecord new × IsCountedBelow revision new
IsSoundWrite (Remove revision key) = Unit {0}

-- there is room for one more row, if it is a block's then among the blocks too
pub record HasRoomFor (store : Datastore) (new : Record) : Type 0 where
  pub few : length store.rows < most_rows
  pub few_blocks : IsTrue (is_of_kind kind.Block (key_of new)) → length (rows_of_kind kind.Block store) < most_blocks
