-- What contracts see of a block: plain data.
use Rattle.std.specs.Prelude.{ℕ, List, Option}
use Rattle.ipam_addr.specs.Shape.{CidrValue}
use Rattle.ipam_block.specs.declared.allocation.Allocation.{Allocation}

-- a block: its addresses, the node that it is affine to, what is held in it by ascending ordinal,
-- the free ordinals in the order in which they are taken, and how often it was written since it was made
pub record BlockValue : Type 0 where
  pub cidr : CidrValue
  pub node : Option (List ℕ)
  pub allocations : List Allocation
  pub queue : List ℕ
  pub sequence : ℕ
