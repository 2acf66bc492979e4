-- What a round has seen, by what its five reads said.
use Rattle.ipam_records.specs.declared.call.Call.TheVariants.{Get, List as ListAll}
use Rattle.ipam_records.specs.declared.key.Key.TheVariants as key
use Rattle.ipam_records.specs.declared.key.Kind.TheVariants as kind
use Rattle.ipam_records.specs.Datastore.{Datastore, reply_of}
use Rattle.ipam_records.specs.Said.{Said}
use Rattle.ipam_model.specs.Choice.{Seen}
use Rattle.ipam_model.specs.Reads.{config_said, pools_said, reservations_said, rows_said}

abbrev pub seen_by_replies : (config pools reservations affinities blocks : Said) → Seen
seen_by_replies config pools reservations affinities blocks = record {
  config = config_said config;
  pools = pools_said pools;
  reservations = reservations_said reservations;
  affinities = rows_said affinities;
  blocks = rows_said blocks;
}

-- by the stores at which the reads came
abbrev pub seen_by_stores : (config pools reservations affinities blocks : Datastore) → Seen
seen_by_stores config pools reservations affinities blocks =
    seen_by_replies (reply_of config (Get key.Config)) (reply_of pools (Get key.Pools)) (reply_of reservations (Get key.Reservations)) (reply_of affinities (ListAll kind.Affinity)) (reply_of blocks (ListAll kind.Block))
