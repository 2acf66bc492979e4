use Rattle.std.proofs.Common.{refl}
use Rattle.ipam_plain.proofs.Unfolded.{runs_computed}
use Rattle.ipam_plain.proofs.runs.changes_by_an_operator.Goals as goal

pub returns-clause-reservation_made : goal.returns-clause-reservation_made
unfolding runs_computed
returns-clause-reservation_made c = refl

pub returns-clause-pool_overlaps : goal.returns-clause-pool_overlaps
unfolding runs_computed
returns-clause-pool_overlaps c = refl

pub returns-clause-pool_disabled : goal.returns-clause-pool_disabled
unfolding runs_computed
returns-clause-pool_disabled c = refl

pub returns-clause-changes_race : goal.returns-clause-changes_race
unfolding runs_computed
returns-clause-changes_race c = refl
