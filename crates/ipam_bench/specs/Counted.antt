-- Writes whose block was written less often than their revision says.
use Rattle.ipam_records.specs.declared.call.Write.{Write}
use Rattle.ipam_records.specs.declared.call.Write.TheVariants.{Put, Remove}
use Rattle.ipam_records.specs.Sound.{IsCountedBelow}

abbrev pub IsCountedWrite : Write → Type 0
IsCountedWrite (Put revision new) = IsCountedBelow revision new
IsCountedWrite (Remove revision key) = Unit {0}
