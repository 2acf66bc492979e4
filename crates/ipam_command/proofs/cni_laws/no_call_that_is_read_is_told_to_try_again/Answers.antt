use Rattle.ipam_command.proofs.TryAgain.{call_never_again}
use Rattle.ipam_command.proofs.cni_laws.no_call_that_is_read_is_told_to_try_again.Goals as goal

pub returns : goal.returns
returns c = call_never_again
