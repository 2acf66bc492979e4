-- How the rows of blocks are kept, and the lists of them.
use Rattle.std.specs.Prelude.{ℕ, min, List}
use Rattle.ipam_records.specs.declared.record.Record.{Record}
use Rattle.ipam_records.specs.BlockLists.{AreBlocks}
use Rattle.ipam_store.specs.Shelved.{Shelved}
use Rattle.ipam_store.specs.Indexed.{Indexed, IsIndexOf}
use Rattle.ipam_store.specs.declared.blocks.Blocks.TheInside.{Inside}

abbrev pub block_rows_in : Inside → Shelved
block_rows_in a = record { rows = a.rows.rows; spare = min a.rows.spare a.index.spare }

-- all rows are blocks, and the lists are those of the rows
pub record AreIndexed (rows : List (ℕ × Record)) (lists : Indexed) : Type 0 where
  pub blocks : AreBlocks rows
  pub index : IsIndexOf lists rows

abbrev pub are_indexed_in : Inside → Type 0
are_indexed_in a = AreIndexed a.rows.rows a.index
