use Rattle.ipam_laws.proofs.CountHistory.{count_law}
use Rattle.ipam_laws.proofs.counts.counts_cover_addresses.Goals as goal

pub returns : goal.returns
returns c = count_law
