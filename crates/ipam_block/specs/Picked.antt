-- Which allocations the private `free` picks.
use Rattle.std.specs.Prelude.{Bool}
use Rattle.ipam_block.specs.declared.allocation.Allocation.{Allocation}
use Rattle.ipam_block.specs.declared.block_record.Which.{Which}
use Rattle.ipam_block.specs.declared.block_record.Which.TheVariants.{Owned, Stamped}
use Rattle.ipam_block.specs.Operations.{is_owned, is_stamped}

abbrev pub picks : Which → Allocation → Bool
picks (Owned handle) a = is_owned handle.now a
picks (Stamped ordinal handle stamp) a = is_stamped ordinal handle.now stamp a
