use Rattle.ipam_command.proofs.TryAgain.{no_try_again}
use Rattle.ipam_command.proofs.cni_laws.no_call_is_told_to_try_again.Goals as goal

pub returns : goal.returns
returns c = no_try_again
