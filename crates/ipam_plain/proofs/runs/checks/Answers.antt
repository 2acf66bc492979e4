use Rattle.std.proofs.Common.{refl}
use Rattle.ipam_plain.proofs.Unfolded.{runs_computed}
use Rattle.ipam_plain.proofs.runs.checks.Goals as goal

pub returns-clause-recorded : goal.returns-clause-recorded
unfolding runs_computed
returns-clause-recorded c = refl

pub returns-clause-recorded_to_another : goal.returns-clause-recorded_to_another
unfolding runs_computed
returns-clause-recorded_to_another c = refl

pub returns-clause-second_not_recorded : goal.returns-clause-second_not_recorded
unfolding runs_computed
returns-clause-second_not_recorded c = refl

pub returns-clause-in_no_pool : goal.returns-clause-in_no_pool
unfolding runs_computed
returns-clause-in_no_pool c = refl

pub returns-clause-second_in_no_pool : goal.returns-clause-second_in_no_pool
unfolding runs_computed
returns-clause-second_in_no_pool c = refl

pub returns-clause-in_disabled_pool : goal.returns-clause-in_disabled_pool
unfolding runs_computed
returns-clause-in_disabled_pool c = refl
