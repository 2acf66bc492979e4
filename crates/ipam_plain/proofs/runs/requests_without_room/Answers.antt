use Rattle.std.proofs.Common.{refl}
use Rattle.ipam_plain.proofs.Unfolded.{runs_computed}
use Rattle.ipam_plain.proofs.runs.requests_without_room.Goals as goal

pub returns-clause-full_in_a_raise : goal.returns-clause-full_in_a_raise
unfolding runs_computed
returns-clause-full_in_a_raise c = refl

pub returns-clause-full_in_a_claim : goal.returns-clause-full_in_a_claim
unfolding runs_computed
returns-clause-full_in_a_claim c = refl

pub returns-clause-full_of_blocks : goal.returns-clause-full_of_blocks
unfolding runs_computed
returns-clause-full_of_blocks c = refl

pub returns-clause-full_in_the_second_family : goal.returns-clause-full_in_the_second_family
unfolding runs_computed
returns-clause-full_in_the_second_family c = refl

pub returns-clause-full_in_a_release : goal.returns-clause-full_in_a_release
unfolding runs_computed
returns-clause-full_in_a_release c = refl
