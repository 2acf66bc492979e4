-- Calls that name sound records.
use Rattle.ipam_records.specs.declared.call.Call.{Call}
use Rattle.ipam_records.specs.declared.call.Call.TheVariants.{Get, List, Create, Update, Delete}
use Rattle.ipam_records.specs.declared.call.Write.{Write}
use Rattle.ipam_records.specs.declared.call.Write.TheVariants.{Put, Remove}
use Rattle.ipam_records.specs.Sound.{IsRecord, IsCountedBelow}

-- the record that the call names is sound
abbrev pub IsRecordCall : Call → Type 0
IsRecordCall (Get key) = Unit {0}
IsRecordCall (List kind) = Unit {0}
IsRecordCall (Create new) = IsRecord new
IsRecordCall (Update new revision) = IsRecord new
IsRecordCall (Delete key revision) = Unit {0}

-- a block that the write puts was written less often than its revision says
abbrev pub IsCountedWrite : Write → Type 0
IsCountedWrite (Put revision new) = IsCountedBelow revision new
IsCountedWrite (Remove revision key) = Unit {0}
