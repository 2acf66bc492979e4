use Rattle.ipam_shared.specs.Kept.{IsKept}
use Rattle.ipam_daemon_tests.proofs.steps.take.Given as goal

abbrev pub invariant-loop : goal.invariant-loop
invariant-loop g l = IsKept g.D.Keeper.rows l.kept
