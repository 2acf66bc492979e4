use Rattle.std.proofs.Common.{refl}
use Rattle.ipam_plain.proofs.Unfolded.{runs_computed}
use Rattle.ipam_plain.specs.LostRaces.{repeated}
use Rattle.ipam_plain.proofs.runs.requests_that_lose_every_race.Goals as goal

pub returns-clause-change_again : goal.returns-clause-change_again
unfolding runs_computed repeated
returns-clause-change_again c = refl

pub returns-clause-del_again : goal.returns-clause-del_again
unfolding runs_computed repeated
returns-clause-del_again c = refl

pub returns-clause-undoing_again : goal.returns-clause-undoing_again
unfolding runs_computed repeated
returns-clause-undoing_again c = refl

pub returns-clause-release_again : goal.returns-clause-release_again
unfolding runs_computed repeated
returns-clause-release_again c = refl

pub returns-clause-mark_again : goal.returns-clause-mark_again
unfolding runs_computed repeated
returns-clause-mark_again c = refl
