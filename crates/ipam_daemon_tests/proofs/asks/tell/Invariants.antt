use Rattle.ipam_shared.specs.Kept.{IsKept}
use Rattle.ipam_shared.specs.Solo.{NothingRuns}
use Rattle.ipam_daemon_tests.proofs.asks.tell.Given as goal

abbrev pub invariant-loop-line : goal.invariant-loop-line
invariant-loop-line g l = NothingRuns l.kept × IsKept g.D.Keeper.rows l.kept
