use Rattle.ipam_record_text.proofs.Configs.{config_reads_back}
use Rattle.ipam_record_text.proofs.Affinities.{affinity_reads_back}
use Rattle.ipam_record_text.proofs.Handles.{handle_reads_back}
use Rattle.ipam_record_text.proofs.PoolTables.{pools_reads_back}
use Rattle.ipam_record_text.proofs.ReservationLists.{reservations_reads_back}
use Rattle.ipam_record_text.proofs.laws.each_sound_value_is_read_back.Goals as goal

pub returns : goal.returns
returns c = record {
  config = config_reads_back;
  affinity = affinity_reads_back;
  handle = handle_reads_back;
  pools = pools_reads_back;
  reservations = reservations_reads_back;
}
