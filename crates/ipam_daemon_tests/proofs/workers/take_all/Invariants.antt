use Rattle.std.proofs.Common.{◌≡◌}
use Rattle.ipam_daemon_tests.proofs.workers.take_all.Given as goal

abbrev pub invariant-loop : goal.invariant-loop
invariant-loop g l = l.worked.pass.lock ≡ g.T.Team.id l.team
