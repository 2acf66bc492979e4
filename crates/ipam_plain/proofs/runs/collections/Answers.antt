use Rattle.std.proofs.Common.{refl}
use Rattle.ipam_plain.proofs.Unfolded.{runs_computed}
use Rattle.ipam_plain.proofs.runs.collections.Goals as goal

pub returns-clause-leak_freed : goal.returns-clause-leak_freed
unfolding runs_computed
returns-clause-leak_freed c = refl

pub returns-clause-live_in_first_list : goal.returns-clause-live_in_first_list
unfolding runs_computed
returns-clause-live_in_first_list c = refl

pub returns-clause-live_in_second_list : goal.returns-clause-live_in_second_list
unfolding runs_computed
returns-clause-live_in_second_list c = refl

pub returns-clause-not_yet_waiting : goal.returns-clause-not_yet_waiting
unfolding runs_computed
returns-clause-not_yet_waiting c = refl

pub returns-clause-waiting_has_no_call : goal.returns-clause-waiting_has_no_call
unfolding runs_computed
returns-clause-waiting_has_no_call c = refl

pub returns-clause-given_again_between_the_lists : goal.returns-clause-given_again_between_the_lists
unfolding runs_computed
returns-clause-given_again_between_the_lists c = refl

pub returns-clause-given_again_after_the_lists : goal.returns-clause-given_again_after_the_lists
unfolding runs_computed
returns-clause-given_again_after_the_lists c = refl

pub returns-clause-fed_within_the_grace : goal.returns-clause-fed_within_the_grace
unfolding runs_computed
returns-clause-fed_within_the_grace c = refl

pub returns-clause-fed_after_the_grace : goal.returns-clause-fed_after_the_grace
unfolding runs_computed
returns-clause-fed_after_the_grace c = refl

pub returns-clause-outside_the_scope : goal.returns-clause-outside_the_scope
unfolding runs_computed
returns-clause-outside_the_scope c = refl

pub returns-clause-inside_the_scope : goal.returns-clause-inside_the_scope
unfolding runs_computed
returns-clause-inside_the_scope c = refl

pub returns-clause-two_leaks_freed : goal.returns-clause-two_leaks_freed
unfolding runs_computed
returns-clause-two_leaks_freed c = refl
