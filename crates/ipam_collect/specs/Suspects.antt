-- What may be collected of a block.
use Rattle.std.specs.Prelude.{List, map, filter}
use Rattle.ipam_block.specs.Shape.{BlockValue}
use Rattle.ipam_model.specs.declared.request.CollectRequest.{CollectRequest}
use Rattle.ipam_model.specs.Remove.{Leak, leak_of, may_leak}

abbrev pub leaks_in_block : CollectRequest → BlockValue → List Leak
leaks_in_block request b = map (leak_of b.cidr) (filter (may_leak request) b.allocations)
