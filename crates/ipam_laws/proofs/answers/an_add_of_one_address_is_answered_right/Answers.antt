use Rattle.ipam_laws.proofs.RightHistory.{this_answers}
use Rattle.ipam_laws.proofs.answers.an_add_of_one_address_is_answered_right.Goals as goal

pub returns : goal.returns
returns c = this_answers
