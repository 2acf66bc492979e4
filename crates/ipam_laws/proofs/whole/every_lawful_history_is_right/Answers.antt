use Rattle.ipam_laws.proofs.RightWhole.{right_law}
use Rattle.ipam_laws.proofs.whole.every_lawful_history_is_right.Goals as goal

pub returns : goal.returns
returns c = right_law
