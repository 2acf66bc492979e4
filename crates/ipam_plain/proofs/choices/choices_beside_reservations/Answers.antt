use Rattle.std.proofs.Common.{refl}
use Rattle.ipam_plain.proofs.Unfolded.{choice_computed}
use Rattle.ipam_plain.proofs.choices.choices_beside_reservations.Goals as goal

pub returns-clause-reserved_ordinals : goal.returns-clause-reserved_ordinals
unfolding choice_computed
returns-clause-reserved_ordinals c = refl

pub returns-clause-reserved_block : goal.returns-clause-reserved_block
unfolding choice_computed
returns-clause-reserved_block c = refl

pub returns-clause-reserved_in_part : goal.returns-clause-reserved_in_part
unfolding choice_computed
returns-clause-reserved_in_part c = refl

pub returns-clause-reserved_slot : goal.returns-clause-reserved_slot
unfolding choice_computed
returns-clause-reserved_slot c = refl

pub returns-clause-reserved_pool : goal.returns-clause-reserved_pool
unfolding choice_computed
returns-clause-reserved_pool c = refl
