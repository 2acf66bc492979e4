use Rattle.ipam_laws.proofs.SoundHistory.{limits_law}
use Rattle.ipam_laws.proofs.records.rows_stay_within_the_limits.Goals as goal

pub returns : goal.returns
returns c = limits_law
