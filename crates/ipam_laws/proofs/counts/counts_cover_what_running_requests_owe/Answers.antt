use Rattle.ipam_laws.proofs.CountHistory.{credit_law}
use Rattle.ipam_laws.proofs.counts.counts_cover_what_running_requests_owe.Goals as goal

pub returns : goal.returns
returns c = credit_law
