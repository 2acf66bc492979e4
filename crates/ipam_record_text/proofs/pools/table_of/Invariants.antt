use Rattle.std.proofs.Common.{◌≡◌, [], ◌++◌}
use Rattle.ipam_record_text.specs.Pools.{are_added}
use Rattle.ipam_record_text.proofs.pools.table_of.Given as goal

-- the table and the pools that are left are all pools, and they are added where all are
abbrev pub invariant-loop-pool : goal.invariant-loop-pool
invariant-loop-pool l =
    (l.table ++ l.pool-iterator.rest.items ≡ l.fn.pools.items)
    × (are_added l.table l.pool-iterator.rest.items ≡ are_added [] l.fn.pools.items)
