-- What a session learns of a datastore.
use Rattle.std.specs.Prelude.{◌≡◌, ℕ, List}
use Rattle.ipam_records.specs.Datastore.{Datastore}
use Rattle.ipam_show.specs.declared.usage.PoolUsage.{PoolUsage}
use Rattle.ipam_show.specs.Usage.{pools_usage}

-- the datastore's revision, and what each pool is used for
pub record IsUsage (store : Datastore) (revision : ℕ) (pools : List PoolUsage) : Type 0 where
  pub is_revision : revision ≡ store.counter
  pub are_pools : pools ≡ pools_usage store
