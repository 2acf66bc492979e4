use Rattle.ipam_laws.proofs.OpenedHistory.{in_doubt}
use Rattle.ipam_laws.proofs.opening.a_write_in_doubt_may_be_opened_either_way.Goals as goal

pub returns : goal.returns
returns c = in_doubt
