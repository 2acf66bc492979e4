use Rattle.std.proofs.Common.{◌-◌, ◌≤◌, length}
use Rattle.ipam_choice.proofs.AheadLemmas.{AllBefore}
use Rattle.ipam_choice.proofs.ahead.pages_from.Given as goal

abbrev pub invariant-loop-low : goal.invariant-loop-low
invariant-loop-low l = (l.low ≤ l.high) × (l.high ≤ length l.pages) × AllBefore l.first l.pages l.low

abbrev pub decreases-loop-low : goal.decreases-loop-low
decreases-loop-low l = l.high - l.low
