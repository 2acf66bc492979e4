use Rattle.std.proofs.Common.{None}
use Rattle.ipam_shared.proofs.Passing.{split-pass, unused-idle}
use Rattle.ipam_shared.proofs.shared.Shared.split.Goals as goal

pub invariant_of-result : goal.invariant_of-result
invariant_of-result g c = let e = c.in_ok-turns.ensures in
    split-pass c.pass.inside.turns c.in_ok-turns.turns c.pass.inside.moment c.pass.inside.sure c.pass.invariant.seen c.pass.invariant.reached e.some.origin e.some.seen e.unused

pub returns-clause-idle : goal.returns-clause-idle
returns-clause-idle g c = unused-idle c.in_ok-turns.turns c.pass.inside.moment None c.in_ok-turns.ensures.unused
