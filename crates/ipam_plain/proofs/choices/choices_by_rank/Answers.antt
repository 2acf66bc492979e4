use Rattle.std.proofs.Common.{refl}
use Rattle.ipam_plain.proofs.Unfolded.{choice_computed}
use Rattle.ipam_plain.proofs.choices.choices_by_rank.Goals as goal

pub returns-clause-own_block : goal.returns-clause-own_block
unfolding choice_computed
returns-clause-own_block c = refl

pub returns-clause-first_in_queue : goal.returns-clause-first_in_queue
unfolding choice_computed
returns-clause-first_in_queue c = refl

pub returns-clause-affinity_missing : goal.returns-clause-affinity_missing
unfolding choice_computed
returns-clause-affinity_missing c = refl

pub returns-clause-affinity_pending : goal.returns-clause-affinity_pending
unfolding choice_computed
returns-clause-affinity_pending c = refl

pub returns-clause-affinity_marked : goal.returns-clause-affinity_marked
unfolding choice_computed
returns-clause-affinity_marked c = refl

pub returns-clause-other_affinities : goal.returns-clause-other_affinities
unfolding choice_computed
returns-clause-other_affinities c = refl

pub returns-clause-unconfirmed_at_the_bound : goal.returns-clause-unconfirmed_at_the_bound
unfolding choice_computed
returns-clause-unconfirmed_at_the_bound c = refl

pub returns-clause-confirmed_first : goal.returns-clause-confirmed_first
unfolding choice_computed
returns-clause-confirmed_first c = refl

pub returns-clause-slot_without_block : goal.returns-clause-slot_without_block
unfolding choice_computed
returns-clause-slot_without_block c = refl

pub returns-clause-second_slot : goal.returns-clause-second_slot
unfolding choice_computed
returns-clause-second_slot c = refl

pub returns-clause-own_block_full : goal.returns-clause-own_block_full
unfolding choice_computed
returns-clause-own_block_full c = refl

pub returns-clause-empty_bare_block : goal.returns-clause-empty_bare_block
unfolding choice_computed
returns-clause-empty_bare_block c = refl

pub returns-clause-held_bare_block : goal.returns-clause-held_bare_block
unfolding choice_computed
returns-clause-held_bare_block c = refl
