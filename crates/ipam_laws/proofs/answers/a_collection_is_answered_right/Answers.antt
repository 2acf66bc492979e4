use Rattle.ipam_laws.proofs.RightHistory.{collect_answers}
use Rattle.ipam_laws.proofs.answers.a_collection_is_answered_right.Goals as goal

pub returns : goal.returns
returns c = collect_answers
