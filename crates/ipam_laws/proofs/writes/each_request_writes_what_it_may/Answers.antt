use Rattle.ipam_laws.proofs.WritesHistory.{writes_law}
use Rattle.ipam_laws.proofs.writes.each_request_writes_what_it_may.Goals as goal

pub returns : goal.returns
returns c = writes_law
