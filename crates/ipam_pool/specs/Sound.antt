-- Which lists of pools are a table.
use Rattle.std.specs.Prelude.{◌≢◌, ◌≤◌, List, length, All, AllPairs}
use Rattle.ipam_addr.specs.Width.{IsCidr}
use Rattle.ipam_addr.specs.Holding.{Overlap}
use Rattle.ipam_addr.specs.Slots.{HasSlots}
use Rattle.ipam_pool.specs.declared.table.TheConstants.{MOST_POOLS}
use Rattle.ipam_pool.specs.declared.pools.Pool.{Pool}

-- few pools with names of their own, each of whole slots, and no two that share an address
pub record IsPoolTable (pools : List Pool) : Type 0 where
  pub few : length pools ≤ MOST_POOLS
  pub ranges : All (λ p. IsCidr p.cidr) pools
  pub sizes : All (λ p. HasSlots p.cidr p.size) pools
  pub names : AllPairs (λ p q. p.name ≢ q.name) pools
  pub apart : AllPairs (λ p q. ¬ (Overlap p.cidr q.cidr)) pools
