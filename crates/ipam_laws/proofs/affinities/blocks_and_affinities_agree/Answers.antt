use Rattle.ipam_laws.proofs.AffinityHistory.{affinity_law}
use Rattle.ipam_laws.proofs.affinities.blocks_and_affinities_agree.Goals as goal

pub returns : goal.returns
returns c = affinity_law
