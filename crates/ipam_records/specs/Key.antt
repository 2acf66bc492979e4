-- The keys of records.
use Rattle.ipam_records.specs.declared.key.Key.{Key}
use Rattle.ipam_records.specs.declared.key.Key.TheVariants as key
use Rattle.ipam_records.specs.declared.record.Record.{Record}
use Rattle.ipam_records.specs.declared.record.Record.TheVariants.{Config, Pools, Reservations, Block, Affinity, Handle}

-- the key of a record
abbrev pub key_of : Record → Key
key_of (Config config) = key.Config
key_of (Pools pools) = key.Pools
key_of (Reservations reservations) = key.Reservations
key_of (Block block) = key.Block block.cidr
key_of (Affinity affinity) = key.Affinity affinity.node affinity.cidr
key_of (Handle handle) = key.Handle handle.id
