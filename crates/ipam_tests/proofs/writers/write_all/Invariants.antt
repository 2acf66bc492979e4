use Rattle.std.proofs.Common.{◌≡◌}
use Rattle.ipam_tests.proofs.writers.write_all.Given as goal

abbrev pub invariant-loop-place : goal.invariant-loop-place
invariant-loop-place g l = (l.pass.lock ≡ l.lock) × (l.by ≡ l.pass.number)
