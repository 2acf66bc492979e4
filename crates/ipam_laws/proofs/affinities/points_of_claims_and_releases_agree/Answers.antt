use Rattle.ipam_laws.proofs.AffinityHistory.{label_points_law}
use Rattle.ipam_laws.proofs.affinities.points_of_claims_and_releases_agree.Goals as goal

pub returns : goal.returns
returns c = label_points_law
