use Rattle.std.proofs.Common.{refl}
use Rattle.ipam_plain.proofs.Unfolded.{runs_computed}
use Rattle.ipam_plain.proofs.runs.releases.Goals as goal

pub returns-clause-released_before_the_claim : goal.returns-clause-released_before_the_claim
unfolding runs_computed
returns-clause-released_before_the_claim c = refl

pub returns-clause-affinity_taken_back : goal.returns-clause-affinity_taken_back
unfolding runs_computed
returns-clause-affinity_taken_back c = refl

pub returns-clause-released_twice : goal.returns-clause-released_twice
unfolding runs_computed
returns-clause-released_twice c = refl

pub returns-clause-released_beside_another : goal.returns-clause-released_beside_another
unfolding runs_computed
returns-clause-released_beside_another c = refl

pub returns-clause-mark_taken_back : goal.returns-clause-mark_taken_back
unfolding runs_computed
returns-clause-mark_taken_back c = refl

pub returns-clause-deletion_lost : goal.returns-clause-deletion_lost
unfolding runs_computed
returns-clause-deletion_lost c = refl

pub returns-clause-mark_gone : goal.returns-clause-mark_gone
unfolding runs_computed
returns-clause-mark_gone c = refl
