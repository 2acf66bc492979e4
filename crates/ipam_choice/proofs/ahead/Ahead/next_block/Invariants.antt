use Rattle.std.proofs.Common.{◌≡◌, length}
use Rattle.ipam_choice.specs.Ahead.{cidrs_left, rows_left}
use Rattle.ipam_choice.proofs.ahead.Ahead.next_block.Given as goal

abbrev pub invariant-loop-row : goal.invariant-loop-row
invariant-loop-row l = cidrs_left l.self ≡ cidrs_left l.initial.self

abbrev pub decreases-loop-row : goal.decreases-loop-row
decreases-loop-row l = length (rows_left l.self)
