use Rattle.ipam_laws.proofs.LabelLaws.{points_law}
use Rattle.ipam_laws.proofs.affinities.points_of_claims_and_releases_agree_by_their_calls.Goals as goal

pub returns : goal.returns
returns c = points_law
