-- What a request reads from a reply.
use Rattle.std.specs.Prelude.{ℕ, true, false, List, [], Option, Some, None}
use Rattle.ipam_pool.specs.declared.pools.Pool.{Pool}
use Rattle.ipam_pool.specs.Shape.{ReservationValue}
use Rattle.ipam_block.specs.Shape as block
use Rattle.ipam_block.specs.declared.record.Affinity.{Affinity}
use Rattle.ipam_block.specs.HandleShape as handle
use Rattle.ipam_block.specs.HandleOperations.{content}
use Rattle.ipam_record_text.specs.declared.config.Config.{Config}
use Rattle.ipam_records.specs.declared.record.Record.{Record}
use Rattle.ipam_records.specs.declared.record.Record.TheVariants as record_of
use Rattle.ipam_records.specs.Said.{Said, Found, Listed}

abbrev pub StoredRecord : Type 0
StoredRecord = ℕ × Record

-- ---- a record that is missing stands for the defaults, for no pools, or for no reservations

abbrev pub default_config : Config
default_config = record { strict = false; auto = true; max_blocks = 0 }

abbrev pub config_said : Said → Config
config_said (Found revision (record_of.Config config)) = config
config_said _ = default_config

abbrev pub pools_said : Said → List Pool
pools_said (Found revision (record_of.Pools pools)) = pools
pools_said _ = []

abbrev pub reservations_said : Said → List ReservationValue
reservations_said (Found revision (record_of.Reservations reservations)) = reservations
reservations_said _ = []

-- the handle of the id, with no counts where it is missing
abbrev pub handle_said : List ℕ → Said → handle.HandleValue
handle_said id (Found revision (record_of.Handle found)) = found
handle_said id _ = content id []

-- ---- what was found, with its revision

abbrev pub block_said : Said → Option (ℕ × block.BlockValue)
block_said (Found revision (record_of.Block found)) = Some (revision, found)
block_said _ = None

abbrev pub affinity_said : Said → Option (ℕ × Affinity)
affinity_said (Found revision (record_of.Affinity found)) = Some (revision, found)
affinity_said _ = None

abbrev pub rows_said : Said → List StoredRecord
rows_said (Listed rows) = rows
rows_said _ = []
