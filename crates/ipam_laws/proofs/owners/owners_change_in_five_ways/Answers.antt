use Rattle.ipam_laws.proofs.OwnersHistory.{owners_law}
use Rattle.ipam_laws.proofs.owners.owners_change_in_five_ways.Goals as goal

pub returns : goal.returns
returns c = owners_law
