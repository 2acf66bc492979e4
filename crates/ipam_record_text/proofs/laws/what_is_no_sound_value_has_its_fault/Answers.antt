use Rattle.std.proofs.Common.{Err}
use Rattle.ipam_record_text.specs.declared.fault.BodyFault.TheVariants.{Form, Table}
use Rattle.ipam_record_text.proofs.Configs.{config_reading-told}
use Rattle.ipam_record_text.proofs.Affinities.{affinity_reading-told}
use Rattle.ipam_record_text.proofs.Handles.{handle_reading-told}
use Rattle.ipam_record_text.proofs.PoolTables.{pools_reading-told}
use Rattle.ipam_record_text.proofs.ReservationLists.{reservations_reading-told}
use Rattle.ipam_record_text.proofs.laws.what_is_no_sound_value_has_its_fault.Goals as goal

pub returns : goal.returns
returns c = record {
  config = λ body none. config_reading-told body (Err Form) tt (λ e. none) (λ k. cc) (λ k. cc);
  affinity = λ body none. affinity_reading-told body (Err Form) tt (λ e. none) (λ k. cc) (λ k. cc);
  handle = λ body none. handle_reading-told body (Err Form) tt (λ e. none) (λ k. cc) (λ k. cc);
  pools = λ body none. pools_reading-told body (Err Form) tt (λ e. none) (λ k. cc) (λ k. cc);
  table = λ body has. pools_reading-told body (Err Table) tt (λ k. absurd cc) (λ e. has) (λ k. cc);
  reservations = λ body none. reservations_reading-told body (Err Form) tt (λ e. none) (λ k. cc) (λ k. cc);
}
