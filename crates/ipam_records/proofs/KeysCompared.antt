-- The order of CIDRs in keys is the one that the code compares by.
use Rattle.std.proofs.Common.{◌≡◌, ℕ, Option, Some, None, refl}
use Rattle.std.specs.Option.{option_cmp}
use Rattle.ipam_addr.specs.declared.address.Family.{Family}
use Rattle.ipam_addr.specs.declared.address.Family.TheVariants.{V4, V6}
use Rattle.ipam_addr.specs.Shape.{CidrValue}
use Rattle.ipam_addr.specs.contracts.cidrs.CidrOrd.TheImpl.{ghosts}
use Rattle.ipam_block.specs.Order.{cidr_cmp}

by_parts : (f g : Family) (a b p q : ℕ) → ghosts.cmp (record { family = f; base = a; prefix = p }) (record { family = g; base = b; prefix = q }) ≡ cidr_cmp (record { family = f; base = a; prefix = p }) (record { family = g; base = b; prefix = q })
by_parts V4 V4 a b p q = refl
by_parts V4 V6 a b p q = refl
by_parts V6 V4 a b p q = refl
by_parts V6 V6 a b p q = refl

pub cidrs_compared : (r s : CidrValue) → ghosts.cmp r s ≡ cidr_cmp r s
cidrs_compared r s = by_parts r.family s.family r.base s.base r.prefix s.prefix

-- what `cmp` answers of two blocks that may be there
pub blocks_compared : (a b : Option CidrValue) → option_cmp ghosts.cmp a b ≡ option_cmp cidr_cmp a b
blocks_compared None None = refl
blocks_compared None (Some s) = refl
blocks_compared (Some r) None = refl
blocks_compared (Some r) (Some s) = cidrs_compared r s
