-- The bodies of records.
use Rattle.std.specs.Prelude.{ℕ, List}
use Rattle.ipam_block_text.specs.Body.{block_body}
use Rattle.ipam_record_text.specs.Config.{config_body}
use Rattle.ipam_record_text.specs.Pools.{pools_body}
use Rattle.ipam_record_text.specs.Reservations.{reservations_body}
use Rattle.ipam_record_text.specs.Affinity.{affinity_body}
use Rattle.ipam_record_text.specs.Handle.{handle_body}
use Rattle.ipam_records.specs.declared.record.Record.{Record}
use Rattle.ipam_records.specs.declared.record.Record.TheVariants.{Config, Pools, Reservations, Block, Affinity, Handle}

-- the body of a record: its one text
abbrev pub body_of : Record → List ℕ
body_of (Config config) = config_body config
body_of (Pools pools) = pools_body pools
body_of (Reservations reservations) = reservations_body reservations
body_of (Block block) = block_body block
body_of (Affinity affinity) = affinity_body affinity
body_of (Handle handle) = handle_body handle
