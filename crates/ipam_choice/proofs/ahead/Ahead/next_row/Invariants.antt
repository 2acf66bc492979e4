use Rattle.std.proofs.Common.{◌≡◌, length}
use Rattle.ipam_choice.specs.Ahead.{rows_left}
use Rattle.ipam_choice.proofs.ahead.Ahead.next_row.Given as goal

abbrev pub invariant-loop-page : goal.invariant-loop-page
invariant-loop-page l = rows_left l.self ≡ rows_left l.initial.self

abbrev pub decreases-loop-page : goal.decreases-loop-page
decreases-loop-page l = length l.self.pages.now
