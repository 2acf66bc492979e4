use Rattle.ipam_model.proofs.ChoiceLemmas.{choice_is, choice_only}
use Rattle.ipam_model.proofs.laws.the_choice_is_the_first_candidate.Goals as goal

pub returns : goal.returns
returns c = record { is = choice_is; only = choice_only }
