-- What contracts see of a handle: plain data.
use Rattle.std.specs.Prelude.{ℕ, List}
use Rattle.ipam_addr.specs.Shape.{CidrValue}

-- a handle: its id, and the blocks that have a count with their counts
pub record HandleValue : Type 0 where
  pub id : List ℕ
  pub counts : List (CidrValue × ℕ)
