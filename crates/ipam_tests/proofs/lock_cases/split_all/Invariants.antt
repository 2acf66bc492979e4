use Rattle.std.proofs.Common.{◌≡◌}
use Rattle.ipam_tests.proofs.lock_cases.split_all.Given as goal

abbrev pub invariant-loop-count : goal.invariant-loop-count
invariant-loop-count l = l.first.lock ≡ l.lock
