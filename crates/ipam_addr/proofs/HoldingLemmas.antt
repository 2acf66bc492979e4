-- The tests of what a CIDR holds tell it.
use Rattle.std.proofs.Common.{◌≡◌, true, refl, subst}
use Rattle.std.proofs.lemmas.Bool.{and_parts, and_from, leb-true, ltb-true, le-leb, lt-ltb}
use Rattle.ipam_addr.specs.declared.address.Family.{Family}
use Rattle.ipam_addr.specs.declared.address.Family.TheVariants.{V4, V6}
use Rattle.ipam_addr.specs.Shape.{AddrValue, CidrValue}
use Rattle.ipam_addr.specs.Holding.{Holds, holds_address, is_same_family}

pub same_family_from : (f g : Family) → is_same_family f g ≡ true → f ≡ g
same_family_from V4 V4 h = refl
same_family_from V4 V6 h = cc
same_family_from V6 V4 h = cc
same_family_from V6 V6 h = refl

pub same_family_test : (f : Family) → is_same_family f f ≡ true
same_family_test V4 = refl
same_family_test V6 = refl

pub holds_from : (r : CidrValue) (a : AddrValue) → holds_address r a ≡ true → Holds r a
holds_from r a h =
    let (front, end) = and_parts _ _ h in
    let (family, base) = and_parts _ _ front in
    record {
      same_family = same_family_from _ _ family;
      from_base = leb-true _ _ base;
      below_end = ltb-true _ _ end;
    }

pub holds_test : (r : CidrValue) (a : AddrValue) → Holds r a → holds_address r a ≡ true
holds_test r a h =
    let same : is_same_family a.family r.family ≡ true = subst (λ f. is_same_family a.family f ≡ true) h.same_family (same_family_test a.family) in
    and_from _ _ (and_from _ _ same (le-leb _ _ h.from_base)) (lt-ltb _ _ h.below_end)
