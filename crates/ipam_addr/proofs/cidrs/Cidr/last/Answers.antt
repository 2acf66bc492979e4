use Rattle.std.proofs.Common.{arith}
use Rattle.ipam_addr.proofs.CidrLemmas.{last_fits}
use Rattle.ipam_addr.proofs.cidrs.Cidr.last.Goals as goal

pub overflow_add-result : goal.overflow_add-result
overflow_add-result c =
    let fits = last_fits _ c.width.result c.low_bits.result c.self.invariant c.width.ensures c.low_bits.ensures in
    omega (arith, fits.1)

pub invariant_of-result : goal.invariant_of-result
invariant_of-result c =
    let fits = last_fits _ c.width.result c.low_bits.result c.self.invariant c.width.ensures c.low_bits.ensures in
    fits.0
