use Rattle.std.proofs.Common.{refl}
use Rattle.ipam_plain.proofs.Unfolded.{runs_computed}
use Rattle.ipam_plain.proofs.runs.deletions.Goals as goal

pub returns-clause-del_of_two_blocks : goal.returns-clause-del_of_two_blocks
unfolding runs_computed
returns-clause-del_of_two_blocks c = refl

pub returns-clause-del_of_missing : goal.returns-clause-del_of_missing
unfolding runs_computed
returns-clause-del_of_missing c = refl
