-- Where a block stands among counts.
use Rattle.std.specs.Prelude.{◌≡◌, ℕ, ◌<◌, ◌≤◌, List, length, slice_index_or}
use Rattle.std.specs.declared.cmp.Ordering.TheVariants.{Less, Greater}
use Rattle.ipam_addr.specs.Shape.{CidrValue}
use Rattle.ipam_block.specs.Order.{cidr_cmp}

-- the count at this place is the block's
pub record IsPlace (counts : List (CidrValue × ℕ)) (block : CidrValue) (place : ℕ) : Type 0 where
  pub within : place < length counts
  pub same : (d : CidrValue × ℕ) → (slice_index_or counts place d).0 ≡ block

-- the blocks before this place stand before the block, and the others after it
pub record IsGap (counts : List (CidrValue × ℕ)) (block : CidrValue) (place : ℕ) : Type 0 where
  pub within : place ≤ length counts
  pub before : (i : ℕ) (d : CidrValue × ℕ) → i < place → cidr_cmp block (slice_index_or counts i d).0 ≡ Greater
  pub behind : (i : ℕ) (d : CidrValue × ℕ) → place ≤ i → i < length counts → cidr_cmp block (slice_index_or counts i d).0 ≡ Less
