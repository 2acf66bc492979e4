use Rattle.std.proofs.Common.{subst, rules}
use Rattle.ipam_addr.specs.Width.{IsCidr}
use Rattle.ipam_addr.proofs.CidrLemmas.{Overlap-ShareAddress}
use Rattle.ipam_addr.proofs.cidrs.Cidr.overlaps.Goals as goal

pub returns-then-other-last-clause-exact : goal.returns-then-other-last-clause-exact
returns-then-other-last-clause-exact c = search rules

pub returns-then-other-last-clause-shared : goal.returns-then-other-last-clause-shared
returns-then-other-last-clause-shared c =
    let exact = returns-then-other-last-clause-exact c in
    let same = Overlap-ShareAddress c.args.self.now c.args.other.now (subst IsCidr c.self.view_is c.self.invariant) c.last-then-other-last.ensures.sound in
    (λ h. same.0 (exact.0 h), λ h. exact.1 (same.1 h))
