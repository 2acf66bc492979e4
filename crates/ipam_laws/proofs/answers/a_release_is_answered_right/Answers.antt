use Rattle.ipam_laws.proofs.RightHistory.{release_answers}
use Rattle.ipam_laws.proofs.answers.a_release_is_answered_right.Goals as goal

pub returns : goal.returns
returns c = release_answers
