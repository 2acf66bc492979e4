-- What a datastore keeps, as a request reads it.
use Rattle.std.specs.Prelude.{ℕ, Bool, List, Option, option_map}
use Rattle.ipam_addr.specs.Shape.{AddrValue, CidrValue}
use Rattle.ipam_block.specs.declared.state.State.{State}
use Rattle.ipam_pool.specs.declared.pools.Pool.{Pool}
use Rattle.ipam_pool.specs.Shape.{ReservationValue}
use Rattle.ipam_pool.specs.Union.{is_in_union}
use Rattle.ipam_records.specs.declared.call.Call.TheVariants.{Get}
use Rattle.ipam_records.specs.declared.key.Key.TheVariants as key
use Rattle.ipam_records.specs.declared.key.Kind.TheVariants as kind
use Rattle.ipam_records.specs.Datastore.{Datastore, reply_of, rows_of_kind}
use Rattle.ipam_model.specs.Reads.{StoredRecord, affinity_said, pools_said, reservations_said}

-- the pools, in the order in which they were added
abbrev pub pools_kept : Datastore → List Pool
pools_kept store = pools_said (reply_of store (Get key.Pools))

abbrev pub reservations_kept : Datastore → List ReservationValue
reservations_kept store = reservations_said (reply_of store (Get key.Reservations))

-- whether some reservation holds the address
abbrev pub is_reserved_kept : Datastore → AddrValue → Bool
is_reserved_kept store = is_in_union (reservations_kept store)

-- the rows of the blocks, by family, base and prefix
abbrev pub blocks_kept : Datastore → List StoredRecord
blocks_kept store = rows_of_kind kind.Block store

-- the state of the node's affinity to the block, where there is one
abbrev pub state_kept : Datastore → (node : List ℕ) → CidrValue → Option State
state_kept store node cidr = option_map (λ found. found.1.state) (affinity_said (reply_of store (Get (key.Affinity node cidr))))
