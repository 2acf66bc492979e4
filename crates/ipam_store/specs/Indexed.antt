-- What contracts see of the lists of blocks: plain data.
use Rattle.std.specs.Prelude.{ℕ, List}
use Rattle.ipam_addr.specs.Shape.{CidrValue}
use Rattle.ipam_records.specs.declared.record.Record.{Record}
use Rattle.ipam_records.specs.BlockLists.{AreListsOf}

-- each node's blocks under its name, the blocks without a node and those with a free address, and
-- how many further blocks take no memory at least
pub record Indexed : Type 0 where
  pub owned : List (List ℕ × List CidrValue)
  pub unowned : List CidrValue
  pub roomy : List CidrValue
  pub spare : ℕ

-- the lists are those of the rows
abbrev pub IsIndexOf : Indexed → List (ℕ × Record) → Type 0
IsIndexOf index rows = AreListsOf rows index.owned index.unowned index.roomy
