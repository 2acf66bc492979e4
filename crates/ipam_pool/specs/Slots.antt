-- The slots of a table.
use Rattle.std.specs.Prelude.{◌≡◌, ℕ, ◌≤◌, Bool, ◌&&◌, ◌==◌, List, Some, slice_get}
use Rattle.ipam_addr.specs.Shape.{AddrValue, CidrValue}
use Rattle.ipam_addr.specs.Holding.{first_address, Holds, holds_address}
use Rattle.ipam_addr.specs.Slots.{last_slot_of, slot_of}
use Rattle.ipam_pool.specs.declared.pools.Pool.{Pool}

-- the CIDR is one of the pool's slots
pub record IsSlotOf (pool : Pool) (cidr : CidrValue) : Type 0 where
  pub number : ℕ
  pub within : number ≤ last_slot_of pool.cidr pool.size
  pub is : cidr ≡ slot_of pool.cidr pool.size number

-- `IsSlotOf`, as a test of a pool with slots
abbrev pub is_slot_of : Pool → CidrValue → Bool
is_slot_of pool cidr = (cidr.prefix == pool.size) && holds_address pool.cidr (first_address cidr)

-- the address lies in the slot of this number of the pool at this place
pub record LiesInSlot (pools : List Pool) (addr : AddrValue) (slot : ℕ × ℕ) : Type 0 where
  pub pool : Pool
  pub at_place : slice_get pools slot.0 ≡ Some pool
  pub within : slot.1 ≤ last_slot_of pool.cidr pool.size
  pub holds : Holds (slot_of pool.cidr pool.size slot.1) addr

-- no two slots hold the address
abbrev pub AtMostOneSlot : List Pool → AddrValue → Type 0
AtMostOneSlot pools addr =
    (s t : ℕ × ℕ) → LiesInSlot pools addr s → LiesInSlot pools addr t → s ≡ t
