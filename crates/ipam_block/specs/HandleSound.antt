-- Which lists are the counts of a handle, and which handles are kept as records.
use Rattle.std.specs.Prelude.{◌≢◌, ℕ, ◌^◌, ◌<◌, List, [], All, IsTrue}
use Rattle.std.specs.List.Sorted.{IsStrictlySortedBy}
use Rattle.std.specs.Map.{keys_of}
use Rattle.ipam_addr.specs.Shape.{CidrValue}
use Rattle.ipam_addr.specs.Width.{IsCidr}
use Rattle.ipam_addr.specs.Names.{is_handle_text}
use Rattle.ipam_block.specs.Sound.{IsBlockCidr}
use Rattle.ipam_block.specs.HandleShape.{HandleValue}
use Rattle.ipam_block.specs.Order.{cidr_cmp}

-- the block is a CIDR, and its count is from 1 to 4,294,967,295
pub record IsCount (entry : CidrValue × ℕ) : Type 0 where
  pub range : IsCidr entry.0
  pub some : 0 < entry.1
  pub small : entry.1 < 2 ^ 32

-- the blocks ascend, so each has one count
pub record AreCounts (counts : List (CidrValue × ℕ)) : Type 0 where
  pub ascending : IsStrictlySortedBy cidr_cmp (keys_of counts)
  pub each : All IsCount counts

-- a handle is kept only while it has a count, and each count is of a block
pub record IsHandleRecord (h : HandleValue) : Type 0 where
  pub id : IsTrue (is_handle_text h.id)
  pub counts : AreCounts h.counts
  pub ranges : All (λ entry. IsBlockCidr entry.0) h.counts
  pub some : h.counts ≢ []
