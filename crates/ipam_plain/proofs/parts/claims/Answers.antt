use Rattle.std.proofs.Common.{refl}
use Rattle.ipam_plain.proofs.Unfolded.{runs_computed}
use Rattle.ipam_plain.proofs.parts.claims.Goals as goal

pub returns-clause-confirms : goal.returns-clause-confirms
unfolding runs_computed
returns-clause-confirms c = refl

pub returns-clause-lost_at_the_affinity : goal.returns-clause-lost_at_the_affinity
unfolding runs_computed
returns-clause-lost_at_the_affinity c = refl

pub returns-clause-lost_at_the_block : goal.returns-clause-lost_at_the_block
unfolding runs_computed
returns-clause-lost_at_the_block c = refl

pub returns-clause-lost_at_the_end : goal.returns-clause-lost_at_the_end
unfolding runs_computed
returns-clause-lost_at_the_end c = refl

pub returns-clause-lost_taking_back : goal.returns-clause-lost_taking_back
unfolding runs_computed
returns-clause-lost_taking_back c = refl

pub returns-clause-no_room_for_the_block : goal.returns-clause-no_room_for_the_block
unfolding runs_computed
returns-clause-no_room_for_the_block c = refl

pub returns-clause-no_revision_to_confirm : goal.returns-clause-no_revision_to_confirm
unfolding runs_computed
returns-clause-no_revision_to_confirm c = refl
