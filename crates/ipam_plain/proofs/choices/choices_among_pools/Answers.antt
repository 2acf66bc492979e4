use Rattle.std.proofs.Common.{refl}
use Rattle.ipam_plain.proofs.Unfolded.{choice_computed}
use Rattle.ipam_plain.proofs.choices.choices_among_pools.Goals as goal

pub returns-clause-first_pool : goal.returns-clause-first_pool
unfolding choice_computed
returns-clause-first_pool c = refl

pub returns-clause-last_slot_of_the_first_pool : goal.returns-clause-last_slot_of_the_first_pool
unfolding choice_computed
returns-clause-last_slot_of_the_first_pool c = refl

pub returns-clause-rank_before_pool : goal.returns-clause-rank_before_pool
unfolding choice_computed
returns-clause-rank_before_pool c = refl

pub returns-clause-disabled_pool : goal.returns-clause-disabled_pool
unfolding choice_computed
returns-clause-disabled_pool c = refl

pub returns-clause-other_family : goal.returns-clause-other_family
unfolding choice_computed
returns-clause-other_family c = refl

pub returns-clause-manual_not_named : goal.returns-clause-manual_not_named
unfolding choice_computed
returns-clause-manual_not_named c = refl

pub returns-clause-manual_named : goal.returns-clause-manual_named
unfolding choice_computed
returns-clause-manual_named c = refl

pub returns-clause-manual_for_one_address : goal.returns-clause-manual_for_one_address
unfolding choice_computed
returns-clause-manual_for_one_address c = refl

pub returns-clause-manual_for_any : goal.returns-clause-manual_for_any
unfolding choice_computed
returns-clause-manual_for_any c = refl

pub returns-clause-address_of_no_pool : goal.returns-clause-address_of_no_pool
unfolding choice_computed
returns-clause-address_of_no_pool c = refl

pub returns-clause-admitted : goal.returns-clause-admitted
unfolding choice_computed
returns-clause-admitted c = refl

pub returns-clause-not_admitted : goal.returns-clause-not_admitted
unfolding choice_computed
returns-clause-not_admitted c = refl

pub returns-clause-without_labels : goal.returns-clause-without_labels
unfolding choice_computed
returns-clause-without_labels c = refl

pub returns-clause-named_and_not_admitted : goal.returns-clause-named_and_not_admitted
unfolding choice_computed
returns-clause-named_and_not_admitted c = refl

pub returns-clause-one_address_not_admitted : goal.returns-clause-one_address_not_admitted
unfolding choice_computed
returns-clause-one_address_not_admitted c = refl
