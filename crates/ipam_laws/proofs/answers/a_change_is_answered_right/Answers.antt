use Rattle.ipam_laws.proofs.RightHistory.{change_answers}
use Rattle.ipam_laws.proofs.answers.a_change_is_answered_right.Goals as goal

pub returns : goal.returns
returns c = change_answers
