use Rattle.std.proofs.Common.{◌≡◌, take}
use Rattle.ipam_collect.proofs.collect.copied_list.Given as goal

abbrev pub invariant-loop-id : goal.invariant-loop-id
invariant-loop-id l = l.copy ≡ take l.id-index l.live
