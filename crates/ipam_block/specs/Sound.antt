-- Which contents are those of a block, and which of them are kept as records.
use Rattle.std.specs.Prelude.{ℕ, ◌^◌, ◌<◌, ◌≤◌, List, ◌++◌, All, AllPairs, map, length, Option, Some, None, IsTrue}
use Rattle.std.specs.Ordering.{nat_cmp}
use Rattle.std.specs.Cmp.Lexicographic.{slice_cmp}
use Rattle.std.specs.List.{range_with_len}
use Rattle.std.specs.List.Sorted.{IsPermutation, IsStrictlySortedBy}
use Rattle.ipam_addr.specs.Shape.{CidrValue}
use Rattle.ipam_addr.specs.Width.{IsCidr, cidr_size}
use Rattle.ipam_addr.specs.Names.{is_name_text, is_handle_text}
use Rattle.ipam_block.specs.declared.limits.TheConstants.{ADDRESSES_MAX, PAIRS_MAX, KEY_BYTES_MAX, VALUE_BYTES_MAX}
use Rattle.ipam_block.specs.declared.allocation.Allocation.{Allocation}
use Rattle.ipam_block.specs.declared.allocation.Attributes.{Attributes}
use Rattle.ipam_block.specs.Shape.{BlockValue}

-- the ordinals that are held
abbrev pub held_ordinals : List Allocation → List ℕ
held_ordinals = map (λ a. a.ordinal)

-- the ordinals of a block of this many addresses
abbrev pub ordinals_below : ℕ → List ℕ
ordinals_below count = range_with_len 0 count

-- a block's content: at most 4,096 addresses, what is held by ascending ordinal, each ordinal
-- either held or queued and only once, and no stamp above the sequence number
pub record IsBlock (b : BlockValue) : Type 0 where
  pub range : IsCidr b.cidr
  pub small : cidr_size b.cidr ≤ ADDRESSES_MAX
  pub ascending : AllPairs (λ x y. x.ordinal < y.ordinal) b.allocations
  pub each_once : IsPermutation (ordinals_below (cidr_size b.cidr)) (held_ordinals b.allocations ++ b.queue)
  pub stamped : All (λ a. (0 < a.stamp) × (a.stamp ≤ b.sequence)) b.allocations

-- ---- records

-- a CIDR that a block may have
pub record IsBlockCidr (r : CidrValue) : Type 0 where
  pub range : IsCidr r
  pub small : cidr_size r ≤ ADDRESSES_MAX

-- a pair of secondary attributes
pub record IsPair (pair : List ℕ × List ℕ) : Type 0 where
  pub key_some : 0 < length pair.0
  pub key_small : length pair.0 ≤ KEY_BYTES_MAX
  pub value_small : length pair.1 ≤ VALUE_BYTES_MAX

-- a handle's id, and few pairs whose keys ascend by their bytes
pub record AreAttributes (a : Attributes) : Type 0 where
  pub id : IsTrue (is_handle_text a.handle)
  pub few : length a.secondary ≤ PAIRS_MAX
  pub pairs : All IsPair a.secondary
  pub ascending : IsStrictlySortedBy (slice_cmp nat_cmp) (map (λ pair. pair.0) a.secondary)

-- a node's name, if any
abbrev pub IsNode : Option (List ℕ) → Type 0
IsNode None = Unit {0}
IsNode (Some node) = IsTrue (is_name_text node)

-- the block keeps the limits on its texts and its sequence number
pub record IsBlockRecord (b : BlockValue) : Type 0 where
  pub block : IsBlock b
  pub node : IsNode b.node
  pub attributes : All (λ a. AreAttributes a.attributes) b.allocations
  pub counted : b.sequence < 2 ^ 64
