use Rattle.std.proofs.Common.{◌≡◌}
use Rattle.ipam_daemon_tests.proofs.pair.by_two.Given as goal

abbrev pub invariant-loop-line : goal.invariant-loop-line
invariant-loop-line g l = (l.one.lock ≡ g.T.Team.id l.team) × (l.other.lock ≡ g.T.Team.id l.team)
