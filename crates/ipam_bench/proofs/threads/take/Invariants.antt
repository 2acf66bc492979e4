use Rattle.std.proofs.Common.{◌≡◌}
use Rattle.ipam_bench.proofs.threads.take.Given as goal

abbrev pub invariant-loop : goal.invariant-loop
invariant-loop g l = (l.pass.lock ≡ l.lock) × (l.by ≡ l.pass.number)
