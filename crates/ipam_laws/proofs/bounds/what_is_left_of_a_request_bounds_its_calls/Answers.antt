use Rattle.ipam_laws.proofs.SpanBound.{spans_are_bounded}
use Rattle.ipam_laws.proofs.bounds.what_is_left_of_a_request_bounds_its_calls.Goals as goal

pub returns : goal.returns
returns c = spans_are_bounded
