use Rattle.std.proofs.Common.{◌≡◌, take}
use Rattle.ipam_cluster.proofs.copies.live_copied.Given as goal

abbrev pub invariant-loop-id : goal.invariant-loop-id
invariant-loop-id l = l.copy ≡ take l.id-index l.live
