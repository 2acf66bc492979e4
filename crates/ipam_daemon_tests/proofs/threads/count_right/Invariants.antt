use Rattle.std.proofs.Common.{◌≡◌}
use Rattle.ipam_daemon_tests.proofs.threads.count_right.Given as goal

abbrev pub invariant-loop-one : goal.invariant-loop-one
invariant-loop-one g l = l.pass.lock ≡ g.T.Team.id l.team
