-- Where a procedure stands before a call.
use Rattle.std.specs.Prelude.{ℕ, List, Option, Some, None}
use Rattle.ipam_addr.specs.Shape.{CidrValue}

-- how many addresses of a block a handle's count is ahead by, on account of the procedure
pub record Credit : Type 0 where
  pub handle : List ℕ
  pub block : CidrValue
  pub amount : ℕ

-- A node's claim of a block, or its release, between two of its writes, with the revisions that the
-- procedure keeps. A block that was found missing has none.
pub data Point : Type 0 where
  -- in neither
  Nowhere : Point
  -- the affinity was read or written, and the block is to be
  Claiming : (node : List ℕ) (block : CidrValue) (block_read : Option ℕ) (affinity : ℕ) → Point
  -- the block was written, and the affinity is to be confirmed
  Claimed : (node : List ℕ) (block : CidrValue) (affinity : ℕ) → Point
  -- the affinity was marked, and the block is to be written
  Releasing : (node : List ℕ) (block : CidrValue) (block_read : Option ℕ) (mark : ℕ) → Point
  -- the block was written, and the affinity is to be deleted
  Released : (node : List ℕ) (block : CidrValue) (mark : ℕ) → Point

pub record CallLabel : Type 0 where
  pub credit : Option Credit
  pub point : Point

-- no credit, and at no point
abbrev pub idle : CallLabel
idle = record { credit = None; point = Nowhere }

-- the credit alone
abbrev pub owing : Credit → CallLabel
owing credit = record { credit = Some credit; point = Nowhere }

-- the point alone
abbrev pub standing : Point → CallLabel
standing point = record { credit = None; point = point }
