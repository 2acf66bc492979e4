use Rattle.ipam_laws.proofs.SpanBound.{requests_are_bounded}
use Rattle.ipam_laws.proofs.bounds.a_request_makes_no_more_calls_in_its_slot.Goals as goal

pub returns : goal.returns
returns c = requests_are_bounded
