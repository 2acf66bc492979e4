-- The blocks of rows, one after the other.
use Rattle.std.specs.Prelude.{◌≡◌, Bool, true, false, List, [], ◌∷◌, ◌++◌, Option, Some, None}
use Rattle.std.specs.declared.cmp.Ordering.TheVariants.{Less}
use Rattle.std.specs.Ordering.{is_lt}
use Rattle.ipam_addr.specs.Shape.{CidrValue}
use Rattle.ipam_block.specs.Order.{cidr_cmp}
use Rattle.ipam_records.specs.declared.record.Record.{Record}
use Rattle.ipam_records.specs.declared.record.Record.TheVariants as record_of
use Rattle.ipam_records.specs.BlockLists.{cidrs_where}
use Rattle.ipam_model.specs.Reads.{StoredRecord}
use Rattle.ipam_choice.specs.First.{Has}

-- the block of the record, where it is a block's
abbrev pub cidr_in : Record → Option CidrValue
cidr_in (record_of.Block b) = Some b.cidr
cidr_in _ = None

-- the blocks, in the order of their rows
abbrev pub cidrs_in : List StoredRecord → List CidrValue
cidrs_in = cidrs_where (λ b. true)

-- whether there is a block, and it stands before this one
abbrev pub is_in_before : CidrValue → Option CidrValue → Bool
is_in_before first None = false
is_in_before first (Some cidr) = is_lt (cidr_cmp cidr first)

-- the last of the rows is a block that stands before this one
pub record EndsBefore (first : CidrValue) (rows : List StoredRecord) : Type 0 where
  pub front : List StoredRecord
  pub row : StoredRecord
  pub parted : rows ≡ front ++ row ∷ []
  pub before : is_in_before first (cidr_in row.1) ≡ true

-- these are all blocks but some at the front that stand before this one
pub record IsPartFrom (first : CidrValue) (all left : List CidrValue) : Type 0 where
  pub seen : List CidrValue
  pub parted : all ≡ seen ++ left
  pub before : (cidr : CidrValue) → Has cidr seen → cidr_cmp cidr first ≡ Less
