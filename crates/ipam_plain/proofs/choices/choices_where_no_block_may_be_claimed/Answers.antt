use Rattle.std.proofs.Common.{refl}
use Rattle.ipam_plain.proofs.Unfolded.{choice_computed}
use Rattle.ipam_plain.proofs.choices.choices_where_no_block_may_be_claimed.Goals as goal

pub returns-clause-other_nodes_block : goal.returns-clause-other_nodes_block
unfolding choice_computed
returns-clause-other_nodes_block c = refl

pub returns-clause-other_nodes_block_strict : goal.returns-clause-other_nodes_block_strict
unfolding choice_computed
returns-clause-other_nodes_block_strict c = refl

pub returns-clause-bare_block_not_empty : goal.returns-clause-bare_block_not_empty
unfolding choice_computed
returns-clause-bare_block_not_empty c = refl

pub returns-clause-empty_bare_at_the_bound : goal.returns-clause-empty_bare_at_the_bound
unfolding choice_computed
returns-clause-empty_bare_at_the_bound c = refl

pub returns-clause-empty_bare_not_allocating : goal.returns-clause-empty_bare_not_allocating
unfolding choice_computed
returns-clause-empty_bare_not_allocating c = refl

pub returns-clause-empty_bare_strict : goal.returns-clause-empty_bare_strict
unfolding choice_computed
returns-clause-empty_bare_strict c = refl

pub returns-clause-slot_not_allocating : goal.returns-clause-slot_not_allocating
unfolding choice_computed
returns-clause-slot_not_allocating c = refl

pub returns-clause-slot_at_the_bound : goal.returns-clause-slot_at_the_bound
unfolding choice_computed
returns-clause-slot_at_the_bound c = refl

pub returns-clause-bound_of_another_node : goal.returns-clause-bound_of_another_node
unfolding choice_computed
returns-clause-bound_of_another_node c = refl

pub returns-clause-bound_in_another_pool : goal.returns-clause-bound_in_another_pool
unfolding choice_computed
returns-clause-bound_in_another_pool c = refl

pub returns-clause-bound_in_the_other_family : goal.returns-clause-bound_in_the_other_family
unfolding choice_computed
returns-clause-bound_in_the_other_family c = refl
