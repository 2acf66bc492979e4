use Rattle.ipam_laws.proofs.FamilyHistory.{families_are_wanted}
use Rattle.ipam_laws.proofs.answers.an_add_tells_of_a_round_for_a_wanted_family.Goals as goal

pub returns : goal.returns
returns c = families_are_wanted
