-- What a ring stands for: a datastore at the opening, and the writes since.
use Rattle.std.specs.Prelude.{◌≡◌, List, map, take}
use Rattle.std.specs.List.Sorted.{IsStrictlySortedBy}
use Rattle.ipam_records.specs.declared.call.Write.{Write}
use Rattle.ipam_records.specs.Datastore.{Datastore, row_key}
use Rattle.ipam_records.specs.KeyOrder.{key_cmp}
use Rattle.ipam_store.specs.Route.{routes_in}
use Rattle.ipam_store.specs.Feed.{store_after_writes, TakeNext, changes_of, floor_of, most_changes}
use Rattle.ipam_store.specs.FeedShape.{RingValue}

-- the ring was opened with the base, and these writes were pushed since, the newest first
pub record Follows (ring : RingValue) (base : Datastore) (writes : List Write) : Type 0 where
  pub ascending : IsStrictlySortedBy key_cmp (map row_key base.rows)
  pub next : TakeNext base writes
  pub routes : ring.routes ≡ routes_in (store_after_writes base writes)
  pub changes : ring.changes ≡ take most_changes (changes_of base writes)
  pub floor : ring.floor ≡ floor_of base.counter (changes_of base writes)
  pub counter : ring.counter ≡ (store_after_writes base writes).counter
