use Rattle.std.proofs.Common.{◌≡◌, ◌∷◌, map, take}
use Rattle.ipam_show.specs.Pools.{pool_head, pool_row}
use Rattle.ipam_show.proofs.pools_shown.pool_rows.Given as goal

abbrev pub invariant-loop-pool : goal.invariant-loop-pool
invariant-loop-pool l = l.rows.items ≡ pool_head ∷ map (pool_row l.counts) (take l.pool-index l.pools)
