-- What contracts see of an address and of a CIDR: plain data.
use Rattle.std.specs.Prelude.{ℕ}
use Rattle.ipam_addr.specs.declared.address.Family.{Family}

-- an address: its family, and its bits as a number
pub record AddrValue : Type 0 where
  pub family : Family
  pub number : ℕ

-- all addresses whose first `prefix` bits are those of the base
pub record CidrValue : Type 0 where
  pub family : Family
  pub base : ℕ
  pub prefix : ℕ
