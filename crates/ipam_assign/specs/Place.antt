-- The slot of a pool that holds an address.
use Rattle.std.specs.Prelude.{ℕ, Option, option_map}
use Rattle.ipam_addr.specs.Shape.{AddrValue, CidrValue}
use Rattle.ipam_addr.specs.Slots.{slot_of, slot_number_of}
use Rattle.ipam_assign.specs.PlaceShape.{PlaceValue}

abbrev pub place_at : CidrValue → (size : ℕ) → AddrValue → (number : ℕ) → PlaceValue
place_at pool size address number = record { cidr = slot_of pool size number; address = address }

abbrev pub place_in : CidrValue → (size : ℕ) → AddrValue → Option PlaceValue
place_in pool size address = option_map (place_at pool size address) (slot_number_of pool size address)
