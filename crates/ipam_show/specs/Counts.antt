-- How many addresses of a block are used, free and borrowed.
use Rattle.std.specs.Prelude.{ℕ, Bool, not, List, Option, Some, None, is_some, length, codes, count_by}
use Rattle.std.specs.List.{filter_map}
use Rattle.ipam_addr.specs.Shape.{AddrValue}
use Rattle.ipam_addr.specs.Width.{cidr_size}
use Rattle.ipam_block.specs.declared.allocation.Allocation.{Allocation}
use Rattle.ipam_block.specs.Operations.{ordinal_address}
use Rattle.ipam_block.specs.Shape.{BlockValue}
use Rattle.ipam_records.specs.declared.record.Record.{Record}
use Rattle.ipam_records.specs.declared.record.Record.TheVariants as record_of
use Rattle.ipam_records.specs.BlockLists.{is_node}
use Rattle.ipam_records.specs.Datastore.{Datastore}
use Rattle.ipam_model.specs.Pairs.{has_value, value_of}
use Rattle.ipam_model.specs.Reads.{StoredRecord}
use Rattle.ipam_show.specs.declared.counting.BlockCount.{BlockCount}
use Rattle.ipam_show.specs.Kept.{blocks_kept, is_reserved_kept}

-- ---- one block

-- The addresses of a block that could still be given: each that is neither assigned nor reserved. So they
-- are the block's size, less what is assigned, less what is reserved and not assigned.
abbrev pub free_in : (reserved : AddrValue → Bool) → BlockValue → ℕ
free_in reserved b = count_by (λ o. not (reserved (ordinal_address b.cidr o))) b.queue

-- whether the assignment is recorded with a node
abbrev pub says_node : Allocation → Bool
says_node a = is_some (value_of (codes "node") a.attributes.secondary)

-- whether the assignment is recorded with a node, and that is not this one
abbrev pub borrows : Option (List ℕ) → Allocation → Bool
borrows node a = has_value (codes "node") (λ said. not (is_node said node)) a.attributes.secondary

abbrev pub told_in : BlockValue → ℕ
told_in b = count_by says_node b.allocations

abbrev pub borrowed_in : BlockValue → ℕ
borrowed_in b = count_by (borrows b.node) b.allocations

-- A reserved address is used only where it is assigned.
abbrev pub block_count : (reserved : AddrValue → Bool) → BlockValue → BlockCount
block_count reserved b =
    record {
      cidr = b.cidr;
      node = b.node;
      size = cidr_size b.cidr;
      used = length b.allocations;
      free = free_in reserved b;
      told = told_in b;
      borrowed = borrowed_in b;
    }

-- ---- all blocks

abbrev pub block_count_in : (reserved : AddrValue → Bool) → Record → Option BlockCount
block_count_in reserved (record_of.Block b) = Some (block_count reserved b)
block_count_in reserved _ = None

abbrev pub counts_in : (reserved : AddrValue → Bool) → List StoredRecord → List BlockCount
counts_in reserved = filter_map (λ row. block_count_in reserved row.1)

-- each block, counted, by family, base and prefix
abbrev pub counts_kept : Datastore → List BlockCount
counts_kept store = counts_in (is_reserved_kept store) (blocks_kept store)
