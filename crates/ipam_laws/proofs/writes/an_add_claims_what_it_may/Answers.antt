use Rattle.ipam_laws.proofs.ClaimsHistory.{claims_law}
use Rattle.ipam_laws.proofs.writes.an_add_claims_what_it_may.Goals as goal

pub returns : goal.returns
returns c = claims_law
