-- What the pools are used for.
use Rattle.std.specs.Prelude.{List, decimal, map}
use Rattle.ipam_addr.specs.Width.{cidr_size}
use Rattle.ipam_pool.specs.declared.pools.Pool.{Pool}
use Rattle.ipam_records.specs.Datastore.{Datastore}
use Rattle.ipam_show.specs.declared.counting.BlockCount.{BlockCount}
use Rattle.ipam_show.specs.declared.usage.PoolUsage.{PoolUsage}
use Rattle.ipam_show.specs.Counts.{counts_kept}
use Rattle.ipam_show.specs.Kept.{pools_kept}
use Rattle.ipam_show.specs.Scopes.{block_sum, free_sum, is_in_pool, reserved_sum, used_sum}

-- Each address of a pool's blocks is used, free or reserved: reserved are those that are neither assigned
-- nor could be given.
unfoldable pub pool_usage : List BlockCount → Pool → PoolUsage
pool_usage counts pool = record {
  cidr = pool.cidr;
  name = pool.name;
  disabled = pool.disabled;
  addresses = decimal (cidr_size pool.cidr);
  blocks = block_sum (is_in_pool pool.cidr) counts;
  used = used_sum (is_in_pool pool.cidr) counts;
  free = free_sum (is_in_pool pool.cidr) counts;
  reserved = reserved_sum (is_in_pool pool.cidr) counts;
}

-- the pools in the order in which they were added
abbrev pub pools_usage : Datastore → List PoolUsage
pools_usage store = map (pool_usage (counts_kept store)) (pools_kept store)
