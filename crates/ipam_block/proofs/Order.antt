-- The order of blocks is total, tells all blocks apart, and is the one that the code compares by.
use Rattle.std.proofs.Common.{◌≡◌, ℕ, refl, arith}
use Rattle.std.specs.declared.cmp.Ordering.{Ordering}
use Rattle.std.specs.declared.cmp.Ordering.TheVariants.{Less, Equal, Greater}
use Rattle.std.specs.Ordering.{ordering_then}
use Rattle.std.specs.Cmp.{IsTotalOrder}
use Rattle.std.proofs.lemmas.Cmp.{on_total, then_total, nat_cmp_total}
use Rattle.std.proofs.lemmas.Map.Lookups.{CmpEqualImpliesEq, exact_unsigned}
use Rattle.ipam_addr.specs.declared.address.Family.{Family}
use Rattle.ipam_addr.specs.declared.address.Family.TheVariants.{V4, V6}
use Rattle.ipam_addr.specs.Shape.{CidrValue}
use Rattle.ipam_addr.specs.contracts.cidrs.CidrOrd.TheImpl.{ghosts}
use Rattle.ipam_block.specs.Order.{family_rank, cidr_cmp}

derived_by_parts : (f g : Family) (a b p q : ℕ) → ghosts.cmp (record { family = f; base = a; prefix = p }) (record { family = g; base = b; prefix = q }) ≡ cidr_cmp (record { family = f; base = a; prefix = p }) (record { family = g; base = b; prefix = q })
derived_by_parts V4 V4 a b p q = refl
derived_by_parts V4 V6 a b p q = refl
derived_by_parts V6 V4 a b p q = refl
derived_by_parts V6 V6 a b p q = refl

-- what `cmp` answers
pub derived-is : (r s : CidrValue) → ghosts.cmp r s ≡ cidr_cmp r s
derived-is r s = derived_by_parts r.family s.family r.base s.base r.prefix s.prefix

pub cidr_cmp_total : IsTotalOrder cidr_cmp
cidr_cmp_total =
    then_total (on_total (λ (r : CidrValue). family_rank r.family) nat_cmp_total)
    (then_total (on_total (λ (r : CidrValue). r.base) nat_cmp_total) (on_total (λ (r : CidrValue). r.prefix) nat_cmp_total))

then_equal : (a b : Ordering) → ordering_then a b ≡ Equal → (a ≡ Equal) × (b ≡ Equal)
then_equal Less b e = cc e
then_equal Equal b e = (refl, e)
then_equal Greater b e = cc e

same_family : (f g : Family) → family_rank f ≡ family_rank g → f ≡ g
same_family V4 V4 e = refl
same_family V4 V6 e = absurd (omega arith)
same_family V6 V4 e = absurd (omega arith)
same_family V6 V6 e = refl

by_parts : (r s : CidrValue) → r.family ≡ s.family → r.base ≡ s.base → r.prefix ≡ s.prefix → r ≡ s
by_parts r s f b p = λ i. record { family = f i; base = b i; prefix = p i }

pub cidr_cmp_exact : CmpEqualImpliesEq cidr_cmp
cidr_cmp_exact r s e =
    let first = then_equal _ _ e in
    let second = then_equal _ _ first.1 in
    by_parts r s (same_family _ _ (exact_unsigned _ _ first.0)) (exact_unsigned _ _ second.0) (exact_unsigned _ _ second.1)
