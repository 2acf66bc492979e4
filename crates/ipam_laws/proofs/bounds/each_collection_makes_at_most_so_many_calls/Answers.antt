use Rattle.ipam_laws.proofs.RequestBounds.{collect_bounds}
use Rattle.ipam_laws.proofs.bounds.each_collection_makes_at_most_so_many_calls.Goals as goal

pub returns : goal.returns
returns c = collect_bounds
