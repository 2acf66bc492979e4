use Rattle.std.proofs.Common.{refl}
use Rattle.ipam_plain.proofs.Unfolded.{runs_computed}
use Rattle.ipam_plain.specs.Parts.{lost_tries, tried}
use Rattle.ipam_plain.proofs.parts.freeings_of_one_address.Goals as goal

pub returns-clause-freed : goal.returns-clause-freed
unfolding runs_computed lost_tries tried
returns-clause-freed c = refl

pub returns-clause-gone_by_stamp : goal.returns-clause-gone_by_stamp
unfolding runs_computed lost_tries tried
returns-clause-gone_by_stamp c = refl

pub returns-clause-gone_with_the_block : goal.returns-clause-gone_with_the_block
unfolding runs_computed lost_tries tried
returns-clause-gone_with_the_block c = refl

pub returns-clause-no_revision_to_free : goal.returns-clause-no_revision_to_free
unfolding runs_computed lost_tries tried
returns-clause-no_revision_to_free c = refl

pub returns-clause-every_try_lost : goal.returns-clause-every_try_lost
unfolding runs_computed lost_tries tried
returns-clause-every_try_lost c = refl

pub returns-clause-last_try_done : goal.returns-clause-last_try_done
unfolding runs_computed lost_tries tried
returns-clause-last_try_done c = refl
