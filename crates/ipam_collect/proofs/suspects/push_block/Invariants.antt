use Rattle.std.proofs.Common.{◌≡◌, ◌++◌, take, map}
use Rattle.std.specs.Prelude.{filter}
use Rattle.ipam_model.specs.Remove.{leak_of, may_leak}
use Rattle.ipam_collect.proofs.suspects.push_block.Given as goal

abbrev pub invariant-loop-allocation : goal.invariant-loop-allocation
invariant-loop-allocation l =
    l.found ≡ l.initial.found ++ map (leak_of l.block.cidr) (filter (may_leak l.request) (take l.allocation-index l.block.allocations))
