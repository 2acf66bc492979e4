use Rattle.ipam_laws.proofs.OwnersOrder.{owners_order}
use Rattle.ipam_laws.proofs.owners.owners_are_listed_by_family_and_address.Goals as goal

pub returns : goal.returns
returns c = owners_order
