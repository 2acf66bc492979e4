-- What each operation makes of a block.
use Rattle.std.specs.Prelude.{ℕ, ◌+◌, Bool, not, ◌&&◌, ◌==◌, nat_lt, List, [], ◌++◌, Option, filter, find, count_by, insert, bytes_eq, option_map}
use Rattle.std.specs.List.{list_any}
use Rattle.std.specs.Option.{option_copied}
use Rattle.std.specs.Borrow.{Bor}
use Rattle.ipam_addr.specs.Shape.{AddrValue, CidrValue}
use Rattle.ipam_addr.specs.Width.{cidr_size}
use Rattle.ipam_block.specs.declared.allocation.Allocation.{Allocation}
use Rattle.ipam_block.specs.declared.allocation.Attributes.{Attributes}
use Rattle.ipam_block.specs.Shape.{BlockValue}
use Rattle.ipam_block.specs.Sound.{held_ordinals, ordinals_below}

-- a block with nothing held, its queue from 0 upwards
abbrev pub fresh_block : CidrValue → Option (List ℕ) → BlockValue
fresh_block cidr node =
    record {
      cidr = cidr;
      node = node;
      allocations = [];
      queue = ordinals_below (cidr_size cidr);
      sequence = 0;
    }

-- the block as its next write has it
abbrev pub next_block : BlockValue → BlockValue
next_block b = record b { sequence = b.sequence + 1 }

-- the address of an ordinal
abbrev pub ordinal_address : CidrValue → ℕ → AddrValue
ordinal_address cidr ordinal = record { family = cidr.family; number = cidr.base + ordinal }

-- the first queued ordinal whose address is not reserved
abbrev pub room : (AddrValue → Bool) → BlockValue → Option ℕ
room reserved b = find (λ o. not (reserved (ordinal_address b.cidr o))) b.queue

-- the allocation of an ordinal, where it is held
abbrev pub holder : BlockValue → ℕ → Option Allocation
holder b ordinal = find (λ a. a.ordinal == ordinal) b.allocations

-- what an allocation records: its attributes and its stamp
abbrev pub holding : Allocation → Attributes × ℕ
holding a = (a.attributes, a.stamp)

-- attributes that are lent, if any, and their stamp, as values
abbrev pub lent_holding : Option (Bor Attributes × ℕ) → Option (Attributes × ℕ)
lent_holding = option_map (λ p. (p.0.now, p.1))

-- whether an ordinal is held
abbrev pub is_held : BlockValue → ℕ → Bool
is_held b ordinal = list_any (λ a. a.ordinal == ordinal) b.allocations

-- the block with one more allocation, which stands after those of lower ordinals
abbrev pub with_allocation : BlockValue → Allocation → BlockValue
with_allocation b a =
    record b {
      allocations = insert b.allocations (count_by (λ x. nat_lt x.ordinal a.ordinal) b.allocations) a;
      queue = filter (λ o. not (o == a.ordinal)) b.queue;
    }

-- the block with this ordinal held from now on, stamped with the sequence number
abbrev pub block_with_ordinal : BlockValue → ℕ → Attributes → BlockValue
block_with_ordinal b ordinal attributes =
    with_allocation b (record { ordinal = ordinal; attributes = attributes; stamp = b.sequence })

-- the block without the allocations that pass the test: their ordinals go, ascending, to the back
-- of the queue
abbrev pub block_without : (Allocation → Bool) → BlockValue → BlockValue
block_without test b =
    record b {
      allocations = filter (λ a. not (test a)) b.allocations;
      queue = b.queue ++ held_ordinals (filter test b.allocations);
    }

-- whether the allocation is recorded to this handle
abbrev pub is_owned : List ℕ → Allocation → Bool
is_owned handle a = bytes_eq a.attributes.handle handle

-- whether this is the allocation of the ordinal that was made for the handle with this stamp
abbrev pub is_stamped : ℕ → List ℕ → ℕ → Allocation → Bool
is_stamped ordinal handle stamp a = (a.ordinal == ordinal) && (a.stamp == stamp) && is_owned handle a

-- the bytes of a node's name that was lent
abbrev pub node_bytes : Option (Bor (List ℕ)) → Option (List ℕ)
node_bytes node = option_copied node

-- the block tied to this node, or to none
abbrev pub affine_to : Option (List ℕ) → BlockValue → BlockValue
affine_to node b = record b { node = node }
