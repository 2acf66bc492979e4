use Rattle.ipam_laws.proofs.Fates.{faults}
use Rattle.ipam_laws.proofs.faults.a_request_is_answered_fault_exactly_where_its_call_failed.Goals as goal

pub returns : goal.returns
returns c = faults
