-- How wide the addresses of a family are, and which addresses and CIDRs there are.
use Rattle.std.specs.Prelude.{◌≡◌, ℕ, ◌-◌, ◌%◌, ◌^◌, ◌<◌, ◌≤◌}
use Rattle.ipam_addr.specs.declared.address.Family.{Family}
use Rattle.ipam_addr.specs.declared.address.Family.TheVariants.{V4, V6}
use Rattle.ipam_addr.specs.Shape.{AddrValue, CidrValue}

-- how many bits an address has
abbrev pub width : Family → ℕ
width V4 = 32
width V6 = 128

-- how many addresses a family has
abbrev pub address_count : Family → ℕ
address_count V4 = 2 ^ 32
address_count V6 = 2 ^ 128

-- the number is one of the family's
abbrev pub IsAddress : AddrValue → Type 0
IsAddress a = a.number < address_count a.family

-- how many addresses a CIDR has
abbrev pub size_of : Family → ℕ → ℕ
size_of family prefix = 2 ^ (width family - prefix)

abbrev pub cidr_size : CidrValue → ℕ
cidr_size r = size_of r.family r.prefix

-- the prefix is no longer than an address, and no bit of the base is set after it
pub record IsCidr (r : CidrValue) : Type 0 where
  pub prefix_fits : r.prefix ≤ width r.family
  pub base_fits : r.base < address_count r.family
  pub no_host_bits : r.base % cidr_size r ≡ 0
