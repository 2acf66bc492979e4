-- The order of blocks.
use Rattle.std.specs.Prelude.{ℕ}
use Rattle.std.specs.declared.cmp.Ordering.{Ordering}
use Rattle.std.specs.Ordering.{nat_cmp, ordering_then}
use Rattle.ipam_addr.specs.declared.address.Family.{Family}
use Rattle.ipam_addr.specs.declared.address.Family.TheVariants.{V4, V6}
use Rattle.ipam_addr.specs.Shape.{CidrValue}

-- IPv4 stands before IPv6
abbrev pub family_rank : Family → ℕ
family_rank V4 = 4
family_rank V6 = 6

-- by family, then base, then prefix
abbrev pub cidr_cmp : CidrValue → CidrValue → Ordering
cidr_cmp r s =
    ordering_then (nat_cmp (family_rank r.family) (family_rank s.family))
    (ordering_then (nat_cmp r.base s.base) (nat_cmp r.prefix s.prefix))
