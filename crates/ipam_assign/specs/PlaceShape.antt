-- What contracts see of an address and its slot.
use Rattle.ipam_addr.specs.Shape.{AddrValue, CidrValue}

pub record PlaceValue : Type 0 where
  pub cidr : CidrValue
  pub address : AddrValue
