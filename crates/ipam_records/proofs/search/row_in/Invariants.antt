use Rattle.std.proofs.Common.{length}
use Rattle.ipam_records.specs.KeyRef.{owned_key}
use Rattle.ipam_records.proofs.RowSearch.{Narrows}
use Rattle.ipam_records.proofs.search.row_in.Given as goal

abbrev pub invariant-loop-left : goal.invariant-loop-left
invariant-loop-left l = Narrows (owned_key l.key) l.fn.pages l.left

abbrev pub decreases-loop-left : goal.decreases-loop-left
decreases-loop-left l = length l.left
