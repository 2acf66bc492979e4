-- What contracts see of a reservation: plain data.
use Rattle.std.specs.Prelude.{ℕ, List}
use Rattle.ipam_addr.specs.Shape.{CidrValue}

-- CIDRs under a name
pub record ReservationValue : Type 0 where
  pub name : List ℕ
  pub cidrs : List CidrValue
