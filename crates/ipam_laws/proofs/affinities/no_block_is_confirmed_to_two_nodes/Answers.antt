use Rattle.ipam_laws.proofs.AffinityHistory.{one_node_law}
use Rattle.ipam_laws.proofs.affinities.no_block_is_confirmed_to_two_nodes.Goals as goal

pub returns : goal.returns
returns c = one_node_law
