use Rattle.std.proofs.Common.{length}
use Rattle.ipam_opening.proofs.Loads.{IsLoading}
use Rattle.ipam_opening.proofs.load.load.Given as goal

abbrev pub invariant-loop-reading : goal.invariant-loop-reading
invariant-loop-reading l = IsLoading l.rows l.counter l.left.items l.store.store

abbrev pub decreases-loop-reading : goal.decreases-loop-reading
decreases-loop-reading l = length l.left.items
