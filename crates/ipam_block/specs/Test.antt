-- A test of whether a content is a block's.
use Rattle.std.specs.Prelude.{ℕ, ◌+◌, Bool, true, ◌&&◌, ◌==◌, nat_lt, nat_le, List, [], ◌∷◌, ◌++◌, Option, length}
use Rattle.std.specs.List.{list_any, list_all}
use Rattle.ipam_addr.specs.Shape.{CidrValue}
use Rattle.ipam_addr.specs.Width.{cidr_size}
use Rattle.ipam_block.specs.declared.allocation.Allocation.{Allocation}
use Rattle.ipam_block.specs.Shape.{BlockValue}
use Rattle.ipam_block.specs.Sound.{held_ordinals, ordinals_below}

-- the ordinals ascend, and none is below the least
abbrev pub ascends_from : ℕ → List Allocation → Bool
ascends_from least [] = true
ascends_from least (a ∷ rest) = nat_le least a.ordinal && ascends_from (a.ordinal + 1) rest

-- there are as many of them as the count, and each number below it is one
abbrev pub are_all_below : ℕ → List ℕ → Bool
are_all_below count ordinals =
    length ordinals == count && list_all (λ o. list_any (λ x. x == o) ordinals) (ordinals_below count)

-- the stamp is one from 1 to the sequence number
abbrev pub has_stamp_within : ℕ → Allocation → Bool
has_stamp_within sequence a = nat_lt 0 a.stamp && nat_le a.stamp sequence

-- whether the content is a block's, where the CIDR is sound and small
abbrev pub is_block : BlockValue → Bool
is_block b =
    ascends_from 0 b.allocations
    && list_all (has_stamp_within b.sequence) b.allocations
    && are_all_below (cidr_size b.cidr) (held_ordinals b.allocations ++ b.queue)

-- the content with these parts
abbrev pub content_of : CidrValue → Option (List ℕ) → List Allocation → List ℕ → ℕ → BlockValue
content_of cidr node allocations queue sequence =
    record {
      cidr = cidr;
      node = node;
      allocations = allocations;
      queue = queue;
      sequence = sequence;
    }
