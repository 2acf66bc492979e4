use Rattle.std.proofs.Common.{◌≡◌, take}
use Rattle.std.specs.List.{count_by}
use Rattle.ipam_show.specs.Scopes.{is_within}
use Rattle.ipam_show.proofs.sums.block_sum.Given as goal

abbrev pub invariant-loop-count : goal.invariant-loop-count
invariant-loop-count l = l.total ≡ count_by (is_within l.scope) (take l.count-index l.counts)
