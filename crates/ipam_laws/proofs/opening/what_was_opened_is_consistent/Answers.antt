use Rattle.ipam_laws.proofs.OpenedHistory.{opened_law}
use Rattle.ipam_laws.proofs.opening.what_was_opened_is_consistent.Goals as goal

pub returns : goal.returns
returns c = opened_law
