-- Each round so far took a tick at least, and a try.
use Rattle.std.proofs.Common.{◌≤◌, ◌+◌, ◌-◌}
use Rattle.ipam_sqlite.proofs.turn.wait_for.Given as goal

abbrev pub invariant-loop : goal.invariant-loop
invariant-loop g l =
    (g.P.Pauses.left l.pauses ≤ g.P.Pauses.left l.initial.pauses - l.counter)
    × (g.T.Tries.tries l.tries ≤ g.T.Tries.tries l.initial.tries + l.counter)
    × (1 ≤ l.pause)
