use Rattle.ipam_laws.proofs.RightHistory.{stop_law}
use Rattle.ipam_laws.proofs.answers.what_stops_a_request_is_so.Goals as goal

pub returns : goal.returns
returns c = stop_law
