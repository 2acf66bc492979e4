-- Records that are put among the blocks.
use Rattle.std.specs.Prelude.{◌≤◌, length, IsTrue}
use Rattle.std.specs.Option.{ForSome}
use Rattle.ipam_addr.specs.declared.names.TheConstants.{MOST_NAME_BYTES}
use Rattle.ipam_records.specs.declared.record.Record.{Record}
use Rattle.ipam_records.specs.declared.record.Record.TheVariants as record_of
use Rattle.ipam_records.specs.BlockLists.{is_block}

-- the name of a block's node, if it has one, is no longer than names are
abbrev pub HasShortNode : Record → Type 0
HasShortNode (record_of.Block block) = ForSome block.node (λ node. length node ≤ MOST_NAME_BYTES)
HasShortNode _ = Unit {0}

-- the record is a block, whose node's name is no longer than names are
pub record IsBlockToPut (new : Record) : Type 0 where
  pub block : IsTrue (is_block new)
  pub short : HasShortNode new
