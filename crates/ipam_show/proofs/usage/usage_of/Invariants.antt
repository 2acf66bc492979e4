use Rattle.std.proofs.Common.{◌≡◌, map, take}
use Rattle.ipam_show.specs.Usage.{pool_usage}
use Rattle.ipam_show.proofs.usage.usage_of.Given as goal

abbrev pub invariant-loop-pool : goal.invariant-loop-pool
invariant-loop-pool l = l.usage.items ≡ map (pool_usage l.counts) (take l.pool-index l.pools)
