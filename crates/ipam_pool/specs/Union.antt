-- Which addresses reservations hold.
use Rattle.std.specs.Prelude.{ℕ, Bool, List, Any}
use Rattle.std.specs.List.{list_any}
use Rattle.ipam_addr.specs.declared.address.Family.{Family}
use Rattle.ipam_addr.specs.Shape.{AddrValue}
use Rattle.ipam_addr.specs.Holding.{Holds, holds_address}
use Rattle.ipam_pool.specs.Shape.{ReservationValue}

-- some CIDR of some reservation holds the address
abbrev pub IsInUnion : List ReservationValue → AddrValue → Type 0
IsInUnion list a = Any (λ r. Any (λ c. Holds c a) r.cidrs) list

-- `IsInUnion`, as a test
abbrev pub is_in_union : List ReservationValue → AddrValue → Bool
is_in_union list a = list_any (λ r. list_any (λ c. holds_address c a) r.cidrs) list

-- the address of this number
abbrev pub address_at : Family → ℕ → AddrValue
address_at family n = record { family = family; number = n }
