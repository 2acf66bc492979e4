use Rattle.ipam_plain.proofs.Gaining.{add_owners}
use Rattle.ipam_plain.proofs.alone.an_add_alone_gains_the_addresses_that_it_gives.Goals as goal

pub returns : goal.returns
returns c = add_owners
