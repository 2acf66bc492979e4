use Rattle.ipam_block.proofs.Reading.{AreCounts-nil}
use Rattle.ipam_block.proofs.handles.Handle.new.Goals as goal

pub invariant_of-result : goal.invariant_of-result
invariant_of-result c = rw c.new.ensures.items AreCounts-nil
