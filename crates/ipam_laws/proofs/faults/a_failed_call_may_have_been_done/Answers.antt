use Rattle.ipam_laws.proofs.Fates.{may_have_done}
use Rattle.ipam_laws.proofs.faults.a_failed_call_may_have_been_done.Goals as goal

pub returns : goal.returns
returns c = may_have_done
