use Rattle.std.proofs.Common.{refl}
use Rattle.ipam_plain.proofs.Unfolded.{runs_computed}
use Rattle.ipam_plain.proofs.runs.adds_that_borrow.Goals as goal

pub returns-clause-strict_add : goal.returns-clause-strict_add
unfolding runs_computed
returns-clause-strict_add c = refl

pub returns-clause-borrowing_add : goal.returns-clause-borrowing_add
unfolding runs_computed
returns-clause-borrowing_add c = refl

pub returns-clause-strict_add_of_one : goal.returns-clause-strict_add_of_one
unfolding runs_computed
returns-clause-strict_add_of_one c = refl

pub returns-clause-borrowing_from_nobody : goal.returns-clause-borrowing_from_nobody
unfolding runs_computed
returns-clause-borrowing_from_nobody c = refl
