-- A slot is a block: it has few addresses.
use native.Mathlib.Omega.{arith}
use Rattle.std.proofs.Common.{◌≤◌, ◌-◌, ℕ}
use Rattle.std.proofs.Math.Nat.{pow-le-pow_right}
use Rattle.ipam_addr.specs.declared.address.Family.{Family}
use Rattle.ipam_addr.specs.declared.address.Family.TheVariants.{V4, V6}
use Rattle.ipam_addr.specs.Shape.{CidrValue}
use Rattle.ipam_addr.specs.Slots.{AllowsSize, HasSlots, slot_of}
use Rattle.ipam_addr.specs.Width.{size_of, cidr_size}
use Rattle.ipam_block.specs.declared.limits.TheConstants.{ADDRESSES_MAX}

few : (family : Family) (size : ℕ) → AllowsSize family size → size_of family size ≤ ADDRESSES_MAX
few V4 size allowed = pow-le-pow_right {n = 2} (omega arith) {i = 32 - size} {j = 12} (omega arith)
few V6 size allowed = pow-le-pow_right {n = 2} (omega arith) {i = 128 - size} {j = 12} (omega arith)

pub slot_is_small : (pool : CidrValue) (size number : ℕ) → HasSlots pool size
    → cidr_size (slot_of pool size number) ≤ ADDRESSES_MAX
slot_is_small pool size number slots = few pool.family size slots.allowed
