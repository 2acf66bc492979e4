use Rattle.std.proofs.Common.{◌≤◌, sym, subst}
use Rattle.ipam_addr.specs.Holding.{Holds}
use Rattle.ipam_addr.specs.Shape.{CidrValue}
use Rattle.ipam_addr.specs.Width.{cidr_size}
use Rattle.ipam_block.specs.declared.limits.TheConstants.{ADDRESSES_MAX}
use Rattle.ipam_assign.proofs.PlaceLemmas.{slot_is_small}
use Rattle.ipam_assign.proofs.place.Place.of.Goals as goal

pub invariant_of-result : goal.invariant_of-result
invariant_of-result c =
    subst (λ (r : CidrValue). (cidr_size r ≤ ADDRESSES_MAX) × Holds r c.args.address) (sym c.slot.ensures.value)
    (slot_is_small c.args.pool c.args.size c.in_ok-number.number c.requires, c.in_ok-number.ensures.slot)
