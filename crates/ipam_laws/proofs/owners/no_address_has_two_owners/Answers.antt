use Rattle.ipam_laws.proofs.OwnersOrder.{one_owner}
use Rattle.ipam_laws.proofs.owners.no_address_has_two_owners.Goals as goal

pub returns : goal.returns
returns c = one_owner
