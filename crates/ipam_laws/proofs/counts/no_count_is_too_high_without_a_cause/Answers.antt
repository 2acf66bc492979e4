use Rattle.ipam_laws.proofs.ExcessHistory.{causes_law}
use Rattle.ipam_laws.proofs.counts.no_count_is_too_high_without_a_cause.Goals as goal

pub returns : goal.returns
returns c = causes_law
