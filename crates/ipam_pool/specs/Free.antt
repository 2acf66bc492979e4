-- Which addresses and slots a set leaves free.
use Rattle.std.specs.Prelude.{◌≡◌, ℕ, ◌<◌, ◌≤◌, false, IsTrue}
use Rattle.ipam_addr.specs.Shape.{AddrValue, CidrValue}
use Rattle.ipam_addr.specs.Holding.{Holds}
use Rattle.ipam_addr.specs.Slots.{last_slot_of, slot_of}
use Rattle.ipam_pool.specs.Spans.{ReservedValue, is_reserved_by}

-- each address of the CIDR is reserved
abbrev pub IsFull : ReservedValue → CidrValue → Type 0
IsFull r cidr = (a : AddrValue) → Holds cidr a → IsTrue (is_reserved_by r a)

-- the address of the CIDR is not reserved, and those in front of it are
pub record IsFirstFree (r : ReservedValue) (cidr : CidrValue) (a : AddrValue) : Type 0 where
  pub own : Holds cidr a
  pub free : is_reserved_by r a ≡ false
  pub least : (b : AddrValue) → Holds cidr b → b.number < a.number → IsTrue (is_reserved_by r b)

-- some address of the CIDR is not reserved
pub record HasRoom (r : ReservedValue) (cidr : CidrValue) : Type 0 where
  pub addr : AddrValue
  pub own : Holds cidr addr
  pub free : is_reserved_by r addr ≡ false

-- the slot of this number has room, and those from `from` on in front of it are full
pub record IsNextSlot (r : ReservedValue) (pool : CidrValue) (size from k : ℕ) : Type 0 where
  pub above : from ≤ k
  pub within : k ≤ last_slot_of pool size
  pub room : HasRoom r (slot_of pool size k)
  pub least : (j : ℕ) → from ≤ j → j < k → IsFull r (slot_of pool size j)

-- all slots from `from` on are full
abbrev pub AreFullFrom : ReservedValue → CidrValue → ℕ → ℕ → Type 0
AreFullFrom r pool size from =
    (j : ℕ) → from ≤ j → j ≤ last_slot_of pool size → IsFull r (slot_of pool size j)
