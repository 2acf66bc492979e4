use Rattle.ipam_laws.proofs.StandsFor.{stands}
use Rattle.ipam_laws.proofs.stands.a_cluster_stands_for_its_history.Goals as goal

pub returns : goal.returns
returns c = stands
