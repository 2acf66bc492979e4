use Rattle.std.proofs.Common.{refl}
use Rattle.ipam_plain.proofs.Unfolded.{runs_computed}
use Rattle.ipam_plain.proofs.runs.add_of_both_families.Goals as goal

pub returns-clause-second_family_exhausted : goal.returns-clause-second_family_exhausted
unfolding runs_computed
returns-clause-second_family_exhausted c = refl

pub returns-clause-no_owner_is_left : goal.returns-clause-no_owner_is_left
unfolding runs_computed
returns-clause-no_owner_is_left c = refl

pub returns-clause-given_again_before_the_second : goal.returns-clause-given_again_before_the_second
unfolding runs_computed
returns-clause-given_again_before_the_second c = refl

pub returns-clause-second_family_unknown : goal.returns-clause-second_family_unknown
unfolding runs_computed
returns-clause-second_family_unknown c = refl

pub returns-clause-second_count_full : goal.returns-clause-second_count_full
unfolding runs_computed
returns-clause-second_count_full c = refl

pub returns-clause-ipv6_given : goal.returns-clause-ipv6_given
unfolding runs_computed
returns-clause-ipv6_given c = refl

pub returns-clause-both_given : goal.returns-clause-both_given
unfolding runs_computed
returns-clause-both_given c = refl
