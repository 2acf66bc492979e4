use Rattle.ipam_laws.proofs.ExcessHistory.{exact_law}
use Rattle.ipam_laws.proofs.counts.counts_are_exact_where_no_request_was_ended_short.Goals as goal

pub returns : goal.returns
returns c = exact_law
