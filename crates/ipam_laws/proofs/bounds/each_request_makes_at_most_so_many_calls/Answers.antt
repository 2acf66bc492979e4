use Rattle.ipam_laws.proofs.RequestBounds.{bounds}
use Rattle.ipam_laws.proofs.bounds.each_request_makes_at_most_so_many_calls.Goals as goal

pub returns : goal.returns
returns c = bounds
