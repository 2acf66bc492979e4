use Rattle.ipam_command.proofs.Ready.{status_tells}
use Rattle.ipam_command.proofs.cni_laws.status_tells_of_the_add.Goals as goal

pub returns : goal.returns
returns c = status_tells
