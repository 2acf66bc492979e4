use Rattle.ipam_laws.proofs.RightWhole.{answers_law}
use Rattle.ipam_laws.proofs.answers.every_answer_is_right.Goals as goal

pub returns : goal.returns
returns c = answers_law
