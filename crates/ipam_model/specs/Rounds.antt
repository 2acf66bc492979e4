-- What a request has read in a round.
use Rattle.std.specs.Prelude.{◌≡◌}
use Rattle.ipam_records.specs.declared.call.Call.TheVariants.{Get, List as ListAll}
use Rattle.ipam_records.specs.declared.key.Key.TheVariants as key
use Rattle.ipam_records.specs.declared.key.Kind.TheVariants as kind
use Rattle.ipam_records.specs.Said.{Said}
use Rattle.ipam_model.specs.declared.answer.Scan.{Scan}
use Rattle.ipam_model.specs.Choice.{Seen}
use Rattle.ipam_model.specs.History.{RequestSpan, HeardCall}
use Rattle.ipam_model.specs.Moments.{IsNext}
use Rattle.ipam_model.specs.Reads.{config_said, pools_said, reservations_said, rows_said}

-- The configuration, the pools and the reservations were read and the affinities and the blocks
-- listed, at these moments and one after the other, and this was seen.
pub record HasScanned (span : RequestSpan) (scan : Scan) (seen : Seen) : Type 0 where
  pub config : Said
  pub pools : Said
  pub reservations : Said
  pub affinities : Said
  pub blocks : Said
  pub at_c : HeardCall span scan.c (Get key.Config) config
  pub at_p : HeardCall span scan.p (Get key.Pools) pools
  pub at_r : HeardCall span scan.r (Get key.Reservations) reservations
  pub at_f : HeardCall span scan.f (ListAll kind.Affinity) affinities
  pub at_b : HeardCall span scan.b (ListAll kind.Block) blocks
  pub then_p : IsNext span scan.c scan.p
  pub then_r : IsNext span scan.p scan.r
  pub then_f : IsNext span scan.r scan.f
  pub then_b : IsNext span scan.f scan.b
  pub saw_config : seen.config ≡ config_said config
  pub saw_pools : seen.pools ≡ pools_said pools
  pub saw_reservations : seen.reservations ≡ reservations_said reservations
  pub saw_affinities : seen.affinities ≡ rows_said affinities
  pub saw_blocks : seen.blocks ≡ rows_said blocks
