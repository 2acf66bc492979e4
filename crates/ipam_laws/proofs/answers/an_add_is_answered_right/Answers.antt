use Rattle.ipam_laws.proofs.RightHistory.{add_answers}
use Rattle.ipam_laws.proofs.answers.an_add_is_answered_right.Goals as goal

pub returns : goal.returns
returns c = add_answers
