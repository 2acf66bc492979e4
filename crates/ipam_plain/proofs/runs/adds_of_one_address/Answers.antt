use Rattle.std.proofs.Common.{refl}
use Rattle.ipam_plain.proofs.Unfolded.{runs_computed}
use Rattle.ipam_plain.proofs.runs.adds_of_one_address.Goals as goal

pub returns-clause-taken_address : goal.returns-clause-taken_address
unfolding runs_computed
returns-clause-taken_address c = refl

pub returns-clause-address_in_no_pool : goal.returns-clause-address_in_no_pool
unfolding runs_computed
returns-clause-address_in_no_pool c = refl

pub returns-clause-reserved_address : goal.returns-clause-reserved_address
unfolding runs_computed
returns-clause-reserved_address c = refl

pub returns-clause-claimed_for_one_address : goal.returns-clause-claimed_for_one_address
unfolding runs_computed
returns-clause-claimed_for_one_address c = refl

pub returns-clause-claimed_from_nobody : goal.returns-clause-claimed_from_nobody
unfolding runs_computed
returns-clause-claimed_from_nobody c = refl

pub returns-clause-nobodys_is_not_affine : goal.returns-clause-nobodys_is_not_affine
unfolding runs_computed
returns-clause-nobodys_is_not_affine c = refl
