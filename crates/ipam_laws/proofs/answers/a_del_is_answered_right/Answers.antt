use Rattle.ipam_laws.proofs.RightHistory.{del_answers}
use Rattle.ipam_laws.proofs.answers.a_del_is_answered_right.Goals as goal

pub returns : goal.returns
returns c = del_answers
