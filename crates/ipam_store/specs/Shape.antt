-- What contracts see of a store: plain data.
use Rattle.std.specs.Prelude.{ℕ}
use Rattle.ipam_records.specs.Datastore.{Datastore}

-- its rows and counter, and how many further writes take no memory at least
pub record StoreValue : Type 0 where
  pub store : Datastore
  pub spare : ℕ
