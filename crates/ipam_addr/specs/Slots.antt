-- A pool's slots: the CIDRs of one size that it consists of, counted from 0.
use Rattle.std.specs.Prelude.{◌≡◌, ◌≢◌, ℕ, ◌+◌, ◌-◌, ◌*◌, ◌/◌, ◌^◌, ◌≤◌, Option, Some, None, if◌then◌else◌}
use Rattle.ipam_addr.specs.declared.address.Family.{Family}
use Rattle.ipam_addr.specs.declared.address.Family.TheVariants.{V4, V6}
use Rattle.ipam_addr.specs.Shape.{AddrValue, CidrValue}
use Rattle.ipam_addr.specs.Width.{size_of}
use Rattle.ipam_addr.specs.Holding.{Holds, Overlap, holds_address}

-- the sizes of a slot
abbrev pub AllowsSize : Family → ℕ → Type 0
AllowsSize V4 size = (20 ≤ size) × (size ≤ 32)
AllowsSize V6 size = (116 ≤ size) × (size ≤ 128)

-- the pool has slots of this size
pub record HasSlots (pool : CidrValue) (size : ℕ) : Type 0 where
  pub allowed : AllowsSize pool.family size
  pub fits : pool.prefix ≤ size

-- the number of the last slot
abbrev pub last_slot_of : CidrValue → ℕ → ℕ
last_slot_of pool size = 2 ^ (size - pool.prefix) - 1

-- the slot of this number
abbrev pub slot_of : CidrValue → ℕ → ℕ → CidrValue
slot_of pool size k = record {
  family = pool.family;
  base = pool.base + k * size_of pool.family size;
  prefix = size;
}

-- the number of the slot that holds the address, if the pool holds it
abbrev pub slot_number_of : CidrValue → ℕ → AddrValue → Option ℕ
slot_number_of pool size a =
    if holds_address pool a then Some ((a.number - pool.base) / size_of pool.family size) else None

-- no other slot shares an address with this one
abbrev pub IsApart : CidrValue → ℕ → ℕ → Type 0
IsApart pool size k =
    (j : ℕ) → j ≤ last_slot_of pool size → j ≢ k → ¬ (Overlap (slot_of pool size k) (slot_of pool size j))

-- whichever slot holds the address, it is this one
abbrev pub IsOnlySlot : CidrValue → ℕ → AddrValue → ℕ → Type 0
IsOnlySlot pool size a k = (j : ℕ) → Holds (slot_of pool size j) a → j ≡ k
