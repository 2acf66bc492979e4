use Rattle.std.proofs.Common.{◌≡◌, map, take}
use Rattle.ipam_release.proofs.del.blocks_of.Given as goal

abbrev pub invariant-loop-count : goal.invariant-loop-count
invariant-loop-count l = l.blocks.items ≡ map (λ count. count.0) (take l.count-index l.counts)
