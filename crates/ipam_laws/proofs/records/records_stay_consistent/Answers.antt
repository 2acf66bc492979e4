use Rattle.ipam_laws.proofs.SlotsHistory.{consistent_law}
use Rattle.ipam_laws.proofs.records.records_stay_consistent.Goals as goal

pub returns : goal.returns
returns c = consistent_law
