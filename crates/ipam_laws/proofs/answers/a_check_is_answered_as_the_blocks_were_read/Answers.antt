use Rattle.ipam_laws.proofs.RightHistory.{check_answers}
use Rattle.ipam_laws.proofs.answers.a_check_is_answered_as_the_blocks_were_read.Goals as goal

pub returns : goal.returns
returns c = check_answers
