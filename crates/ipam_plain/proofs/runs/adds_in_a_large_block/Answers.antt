use Rattle.std.proofs.Common.{refl}
use Rattle.ipam_plain.proofs.Unfolded.{runs_computed}
use Rattle.ipam_plain.proofs.runs.adds_in_a_large_block.Goals as goal

pub returns-clause-first_and_last : goal.returns-clause-first_and_last
unfolding runs_computed
returns-clause-first_and_last c = refl

pub returns-clause-their_owners : goal.returns-clause-their_owners
unfolding runs_computed
returns-clause-their_owners c = refl
