-- How a write ended.
use Rattle.ipam_records.specs.Said.{Said, Found, Missing, Listed, Can, Exists, Conflict, Full as NoRoom, Spent as NoRevisions}
use Rattle.ipam_parts.specs.declared.write_end.WriteEnd.{WriteEnd}
use Rattle.ipam_parts.specs.declared.write_end.WriteEnd.TheVariants.{Took, Lost, Full, Spent}

abbrev pub write_end : Said → WriteEnd
write_end (Can revision) = Took revision
write_end Missing = Lost
write_end (Exists revision) = Lost
write_end (Conflict revision) = Lost
write_end NoRoom = Full
write_end NoRevisions = Spent
-- a write is answered in none of these ways
write_end (Found revision found) = Lost
write_end (Listed rows) = Lost
