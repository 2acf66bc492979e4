-- What the rank of a slot is read from.
use Rattle.std.specs.Prelude.{ℕ, ◌+◌, Bool, ◌&&◌, List, Option, Some, None, is_some, is_none, find, if◌then◌else◌}
use Rattle.std.specs.List.{list_any}
use Rattle.std.specs.Option.{option_or}
use Rattle.ipam_addr.specs.Shape.{AddrValue, CidrValue}
use Rattle.ipam_addr.specs.Width.{IsCidr, cidr_size}
use Rattle.ipam_addr.specs.Slots.{HasSlots, last_slot_of, slot_of}
use Rattle.ipam_block.specs.Shape as block
use Rattle.ipam_block.specs.Operations.{ordinal_address, room}
use Rattle.ipam_pool.specs.declared.pools.Pool.{Pool}
use Rattle.ipam_pool.specs.Slots.{is_slot_of}
use Rattle.ipam_model.specs.Reads.{StoredRecord}
use Rattle.ipam_model.specs.Usable.{Asked}
use Rattle.ipam_model.specs.Choice.{Seen, is_confirmed_for, is_block_at, block_in_found, is_reserved, is_unowned_and_empty, may_claim, first_found, Rank, Own, Unconfirmed, Unclaimed, Foreign, Ranked, if_rank}
use Rattle.ipam_choice.specs.First.{found_there}
use Rattle.ipam_records.specs.BlockLists.{is_node}

-- the node, whether affinity is strict, whether the node may claim one more block, the blocks whose
-- affinity to it is confirmed, what is reserved, and the rows of the blocks
pub record Sight : Type 0 where
  pub node : List ℕ
  pub strict : Bool
  pub may_claim : Bool
  pub confirmed : CidrValue → Bool
  pub reserved : AddrValue → Bool
  pub blocks : List StoredRecord

-- what a request sees of what it has read
abbrev pub sight_in : Asked → Seen → Sight
sight_in asked seen = record {
  node = asked.node;
  strict = seen.config.strict;
  may_claim = may_claim asked seen;
  confirmed = λ cidr. list_any (is_confirmed_for asked.node cidr) seen.affinities;
  reserved = is_reserved seen;
  blocks = seen.blocks;
}

-- the block of the slot, with its revision, where there is one
abbrev pub block_under : List StoredRecord → CidrValue → Option (ℕ × block.BlockValue)
block_under rows cidr = block_in_found (find (is_block_at cidr) rows)

-- the pool is cut into slots
pub record IsSlotted (pool : Pool) : Type 0 where
  pub range : IsCidr pool.cidr
  pub slots : HasSlots pool.cidr pool.size

-- ---- the rank of a slot with a block

-- by the room of the block
abbrev pub rank_by_room : Sight → ℕ × block.BlockValue → (room : Option ℕ) → Option Rank
rank_by_room sight found None = None
rank_by_room sight found (Some ordinal) =
    if is_node sight.node found.1.node
    then (if sight.confirmed found.1.cidr then Some (Own found ordinal) else Some (Unconfirmed found))
    else (if is_unowned_and_empty found.1 && sight.may_claim then Some (Unclaimed (Some found))
    else (if sight.strict then None else Some (Foreign found ordinal)))

abbrev pub rank_of_found : Sight → Option (ℕ × block.BlockValue) → Option Rank
rank_of_found sight None = None
rank_of_found sight (Some found) = rank_by_room sight found (room sight.reserved found.1)

abbrev pub rank_listed : Sight → CidrValue → Option Rank
rank_listed sight cidr = rank_of_found sight (block_under sight.blocks cidr)

-- ---- the rank of a slot without a block

abbrev pub free_at : (AddrValue → Bool) → CidrValue → (ordinal : ℕ) → Option AddrValue
free_at reserved cidr ordinal =
    if reserved (ordinal_address cidr ordinal) then None else Some (ordinal_address cidr ordinal)

-- whether some address of the slot is not reserved
abbrev pub has_free : (AddrValue → Bool) → CidrValue → Bool
has_free reserved cidr = is_some (first_found (free_at reserved cidr) (cidr_size cidr) 0)

-- whether the slot has no block and some address that is not reserved
abbrev pub is_bare : Sight → CidrValue → Bool
is_bare sight cidr = is_none (block_under sight.blocks cidr) && has_free sight.reserved cidr

abbrev pub rank_bare : Sight → CidrValue → Option Rank
rank_bare sight cidr = if sight.may_claim && is_bare sight cidr then Some (Unclaimed None) else None

-- ---- the first slot of a rank

abbrev pub rank_in_sight : Sight → CidrValue → Option Rank
rank_in_sight sight cidr = option_or (rank_listed sight cidr) (rank_bare sight cidr)

-- the slot, where it is one of the pool's and has a rank of this number
abbrev pub if_slot : (CidrValue → Option Rank) → (number : ℕ) → Pool → CidrValue → Option Ranked
if_slot rank number pool cidr = if is_slot_of pool cidr then if_rank number cidr (rank cidr) else None

-- the first slot of the pool that has a rank of this number, with its own number
abbrev pub first_ranked : (CidrValue → Option Rank) → (number : ℕ) → Pool → Option (ℕ × Ranked)
first_ranked rank number pool =
    first_found (λ k. if_rank number (slot_of pool.cidr pool.size k) (rank (slot_of pool.cidr pool.size k)))
    (last_slot_of pool.cidr pool.size + 1) 0

abbrev pub first_in : Sight → (number : ℕ) → Pool → Option Ranked
first_in sight number pool = found_there (first_ranked (rank_in_sight sight) number pool)
