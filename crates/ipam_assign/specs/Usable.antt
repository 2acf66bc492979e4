-- The slot of an address in the usable pool that holds it.
use Rattle.std.specs.Prelude.{Option, Some, None}
use Rattle.ipam_addr.specs.Shape.{AddrValue}
use Rattle.ipam_pool.specs.declared.pools.Pool.{Pool}
use Rattle.ipam_model.specs.AddThis.{slot_holding}
use Rattle.ipam_assign.specs.PlaceShape.{PlaceValue}

abbrev pub place_of_pool : AddrValue → Option Pool → Option PlaceValue
place_of_pool address None = None
place_of_pool address (Some pool) = Some (record { cidr = slot_holding pool address; address = address })
