-- Records and calls that are sound whatever revision a write takes.
use Rattle.ipam_records.specs.declared.record.Record.{Record}
use Rattle.ipam_records.specs.declared.call.Call.{Call}
use Rattle.ipam_records.specs.declared.call.Call.TheVariants.{Get, List, Create, Update, Delete}
use Rattle.ipam_records.specs.Sound.{IsRecord, IsCountedBelow}

-- the record is sound, and a block in it was never written
pub record IsAlwaysSound (new : Record) : Type 0 where
  pub is_record : IsRecord new
  pub unwritten : IsCountedBelow 1 new

-- a record that the call names is one of those
abbrev pub IsSoundCall : Call → Type 0
IsSoundCall (Get key) = Unit {0}
IsSoundCall (List kind) = Unit {0}
IsSoundCall (Create new) = IsAlwaysSound new
IsSoundCall (Update new revision) = IsAlwaysSound new
IsSoundCall (Delete key revision) = Unit {0}
