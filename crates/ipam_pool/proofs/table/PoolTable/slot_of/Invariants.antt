use Rattle.std.proofs.Common.{ℕ, ◌<◌, get_or}
use Rattle.ipam_addr.specs.Holding.{Holds}
use Rattle.ipam_pool.specs.declared.pools.Pool.{Pool}
use Rattle.ipam_pool.proofs.table.PoolTable.slot_of.Given as goal

-- no pool so far holds the address
abbrev pub invariant-loop-place : goal.invariant-loop-place
invariant-loop-place l =
    (k : ℕ) (d : Pool) → k < l.place → ¬ (Holds (get_or l.pool-items k d).cidr l.addr)
