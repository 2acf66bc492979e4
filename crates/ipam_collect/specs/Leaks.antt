-- Where an owner is looked for among blocks.
use Rattle.std.specs.Prelude.{ℕ, ◌-◌, ◌%◌, ◌^◌, List, [], Option, Some, None, map}
use Rattle.std.specs.List.{Contains}
use Rattle.std.specs.List.Sorted.{IsStrictlySortedBy}
use Rattle.ipam_addr.specs.Shape.{AddrValue, CidrValue}
use Rattle.ipam_addr.specs.Width.{width}
use Rattle.ipam_block.specs.Shape.{BlockValue}
use Rattle.ipam_block.specs.Sound.{IsBlock}
use Rattle.ipam_records.specs.declared.record.Record.TheVariants as record_of
use Rattle.ipam_records.specs.KeyOrder.{key_cmp}
use Rattle.ipam_records.specs.Datastore.{row_key}
use Rattle.ipam_model.specs.Owners.{Owner, owners_in_row}
use Rattle.ipam_model.specs.Reads.{StoredRecord}

-- each block among the rows is sound, and the keys ascend
pub record AreSoundRows (rows : List StoredRecord) : Type 0 where
  pub blocks : (revision : ℕ) (b : BlockValue) → Contains rows (revision, record_of.Block b) → IsBlock b
  pub ascending : IsStrictlySortedBy key_cmp (map row_key rows)

-- the block that has the address, with this many bits after the prefix
abbrev pub block_around : AddrValue → (bits : ℕ) → CidrValue
block_around a bits = record {
  family = a.family;
  base = a.number - a.number % 2 ^ bits;
  prefix = width a.family - bits;
}

-- the owners of the row that was found
abbrev pub owners_found : Option StoredRecord → List Owner
owners_found None = []
owners_found (Some row) = owners_in_row row
