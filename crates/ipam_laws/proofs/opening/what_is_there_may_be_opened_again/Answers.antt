use Rattle.ipam_laws.proofs.OpenedHistory.{opened_again}
use Rattle.ipam_laws.proofs.opening.what_is_there_may_be_opened_again.Goals as goal

pub returns : goal.returns
returns c = opened_again
