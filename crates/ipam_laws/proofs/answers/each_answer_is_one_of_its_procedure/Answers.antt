use Rattle.ipam_laws.proofs.OwnAnswers.{own_answers}
use Rattle.ipam_laws.proofs.answers.each_answer_is_one_of_its_procedure.Goals as goal

pub returns : goal.returns
returns c = own_answers
