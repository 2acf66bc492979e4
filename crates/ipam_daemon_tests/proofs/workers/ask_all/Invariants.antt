use Rattle.std.proofs.Common.{◌≡◌}
use Rattle.ipam_daemon_tests.proofs.workers.ask_all.Given as goal

abbrev pub invariant-loop-number : goal.invariant-loop-number
invariant-loop-number g l = l.worked.pass.lock ≡ g.T.Team.id l.team
