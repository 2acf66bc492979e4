use Rattle.ipam_laws.proofs.SpanCalls.{del_calls}
use Rattle.ipam_laws.proofs.bounds.a_del_makes_at_most_so_many_calls_in_its_slot.Goals as goal

pub returns : goal.returns
returns c = del_calls
