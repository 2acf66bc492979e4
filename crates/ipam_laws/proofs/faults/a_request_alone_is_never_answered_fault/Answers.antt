use Rattle.ipam_laws.proofs.Fates.{alone_faults}
use Rattle.ipam_laws.proofs.faults.a_request_alone_is_never_answered_fault.Goals as goal

pub returns : goal.returns
returns c = alone_faults
