use Rattle.ipam_record_text.proofs.Configs.{config_read}
use Rattle.ipam_record_text.proofs.Affinities.{affinity_read}
use Rattle.ipam_record_text.proofs.Handles.{handle_read}
use Rattle.ipam_record_text.proofs.PoolTables.{pools_read}
use Rattle.ipam_record_text.proofs.ReservationLists.{reservations_read}
use Rattle.ipam_record_text.proofs.laws.what_is_read_has_the_body.Goals as goal

pub returns : goal.returns
returns c = record {
  config = config_read;
  affinity = affinity_read;
  handle = handle_read;
  pools = pools_read;
  reservations = reservations_read;
}
