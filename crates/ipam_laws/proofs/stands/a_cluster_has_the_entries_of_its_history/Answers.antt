use Rattle.ipam_laws.proofs.StandsFor.{entries_are_counted}
use Rattle.ipam_laws.proofs.stands.a_cluster_has_the_entries_of_its_history.Goals as goal

pub returns : goal.returns
returns c = entries_are_counted
