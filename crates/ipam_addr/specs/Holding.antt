-- Which addresses a CIDR holds, and which CIDRs share an address.
use Rattle.std.specs.Prelude.{◌≡◌, ℕ, ◌+◌, ◌<◌, ◌≤◌, Bool, true, false, ◌&&◌, nat_lt, nat_le}
use Rattle.ipam_addr.specs.declared.address.Family.{Family}
use Rattle.ipam_addr.specs.declared.address.Family.TheVariants.{V4, V6}
use Rattle.ipam_addr.specs.Shape.{AddrValue, CidrValue}
use Rattle.ipam_addr.specs.Width.{cidr_size}

-- the first address
abbrev pub first_address : CidrValue → AddrValue
first_address r = record { family = r.family; number = r.base }

-- the number after the last address
abbrev pub cidr_end : CidrValue → ℕ
cidr_end r = r.base + cidr_size r

-- the address begins with the CIDR's bits: it is of the family, and one of the numbers from the base on
pub record Holds (r : CidrValue) (a : AddrValue) : Type 0 where
  pub same_family : a.family ≡ r.family
  pub from_base : r.base ≤ a.number
  pub below_end : a.number < cidr_end r

-- each base lies below the other's end
pub record Overlap (r s : CidrValue) : Type 0 where
  pub same_family : r.family ≡ s.family
  pub first_reaches : s.base < cidr_end r
  pub second_reaches : r.base < cidr_end s

-- some address lies in both
abbrev pub ShareAddress : CidrValue → CidrValue → Type 0
ShareAddress r s = (a : AddrValue) × Holds r a × Holds s a

-- every address of the first lies in the second
abbrev pub LiesIn : CidrValue → CidrValue → Type 0
LiesIn r s = (a : AddrValue) → Holds r a → Holds s a

abbrev pub is_same_family : Family → Family → Bool
is_same_family V4 V4 = true
is_same_family V4 V6 = false
is_same_family V6 V4 = false
is_same_family V6 V6 = true

-- `Holds`, as a test
abbrev pub holds_address : CidrValue → AddrValue → Bool
holds_address r a =
    is_same_family a.family r.family && nat_le r.base a.number && nat_lt a.number (cidr_end r)

-- `Overlap`, as a test
abbrev pub cidrs_overlap : CidrValue → CidrValue → Bool
cidrs_overlap r s =
    is_same_family r.family s.family && nat_lt s.base (cidr_end r) && nat_lt r.base (cidr_end s)
