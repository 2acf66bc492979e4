-- What contracts see of the blocks of each node: plain data.
use Rattle.std.specs.Prelude.{◌≡◌, ℕ, false, List, bytes_eq}
use Rattle.ipam_addr.specs.Shape.{CidrValue}
use Rattle.ipam_records.specs.BlockLists.{list_under}

-- each node's blocks under its name, and how many further blocks take no memory at least
pub record Named : Type 0 where
  pub lists : List (List ℕ × List CidrValue)
  pub spare : ℕ

-- the list of this node is this one now, and those of the others are as they were
pub record ChangesList (node : List ℕ) (cidrs : List CidrValue) (old new : List (List ℕ × List CidrValue)) : Type 0 where
  pub here : list_under node new ≡ cidrs
  pub others : (other : List ℕ) → bytes_eq node other ≡ false → list_under other new ≡ list_under other old
