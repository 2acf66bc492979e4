use Rattle.ipam_plain.proofs.GainingThis.{add_this_owners}
use Rattle.ipam_plain.proofs.alone.an_add_of_one_address_alone_gains_that_address.Goals as goal

pub returns : goal.returns
returns c = add_this_owners
