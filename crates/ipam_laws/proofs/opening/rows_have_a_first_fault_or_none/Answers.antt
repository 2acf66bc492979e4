use Rattle.ipam_laws.proofs.FirstFault.{first_fault}
use Rattle.ipam_laws.proofs.opening.rows_have_a_first_fault_or_none.Goals as goal

pub returns : goal.returns
returns c = first_fault
