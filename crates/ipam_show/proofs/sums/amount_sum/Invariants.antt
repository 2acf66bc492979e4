use Rattle.std.proofs.Common.{◌≡◌, ◌≤◌, ◌*◌, take}
use Rattle.std.specs.List.{sum_by}
use Rattle.ipam_show.specs.Scopes.{amount_for, is_within}
use Rattle.ipam_show.proofs.sums.amount_sum.Given as goal

abbrev pub invariant-loop-count : goal.invariant-loop-count
invariant-loop-count l = record {
  sum : l.total ≡ sum_by (amount_for l.amount (is_within l.scope)) (take l.count-index l.counts);
  small : l.total ≤ 65535 * l.count-index;
}
