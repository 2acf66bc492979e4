-- When a slot has an address that is not reserved.
use native.Mathlib.Omega.{arith}
use Rattle.std.proofs.Common.{◌≡◌, ℕ, ◌+◌, ◌-◌, Bool, true, false, cond, Option, Some, None, is_some, refl, sym, ap, ◌∙◌}
use Rattle.ipam_addr.specs.Shape.{AddrValue, CidrValue}
use Rattle.ipam_addr.specs.Width.{cidr_size}
use Rattle.ipam_addr.specs.Holding.{Holds}
use Rattle.ipam_block.specs.Operations.{ordinal_address}
use Rattle.ipam_pool.specs.Spans.{ReservedValue, is_reserved_by}
use Rattle.ipam_pool.specs.Free.{IsFull, HasRoom}
use Rattle.ipam_model.specs.Choice.{first_found}
use Rattle.ipam_choice.specs.Sight.{free_at, has_free}
use Rattle.ipam_model.proofs.ChoiceLemmas.{first_found-none}
use Rattle.ipam_choice.proofs.FirstLemmas.{first_found-nothing}

free_at-tested : (reserved : AddrValue → Bool) (cidr : CidrValue) (ordinal : ℕ) (b : Bool) → reserved (ordinal_address cidr ordinal) ≡ b → free_at reserved cidr ordinal ≡ cond b None (Some (ordinal_address cidr ordinal))
free_at-tested reserved cidr ordinal b is = ap (λ (t : Bool). cond t None (Some (ordinal_address cidr ordinal))) is

pub has_free-full : (r : ReservedValue) (cidr : CidrValue) → IsFull r cidr → has_free (is_reserved_by r) cidr ≡ false
has_free-full r cidr full =
    ap is_some (first_found-nothing (free_at (is_reserved_by r) cidr) (cidr_size cidr) 0 (λ j above below.
    free_at-tested (is_reserved_by r) cidr j true
    (full (ordinal_address cidr j) (record { same_family = refl; from_base = omega arith; below_end = omega arith }))))

address_again : (cidr : CidrValue) (a : AddrValue) → Holds cidr a → ordinal_address cidr (a.number - cidr.base) ≡ a
address_again cidr a held =
    let number : cidr.base + (a.number - cidr.base) ≡ a.number = omega (arith, held.from_base) in
    λ i. record { family = sym held.same_family i; number = number i }

pub has_free-room : (r : ReservedValue) (cidr : CidrValue) → HasRoom r cidr → has_free (is_reserved_by r) cidr ≡ true
has_free-room r cidr room = by (first_found (free_at (is_reserved_by r) cidr) (cidr_size cidr) 0) refl
  where
    a : AddrValue
    a = room.addr

    free : is_reserved_by r (ordinal_address cidr (a.number - cidr.base)) ≡ false
    free = ap (is_reserved_by r) (address_again cidr a room.own) ∙ room.free

    by : (o : Option (ℕ × AddrValue)) → first_found (free_at (is_reserved_by r) cidr) (cidr_size cidr) 0 ≡ o → is_some o ≡ true
    by (Some found) is = refl
    by None is =
        let nowhere = first_found-none (free_at (is_reserved_by r) cidr) (cidr_size cidr) 0 is (a.number - cidr.base) (omega arith) (omega (arith, room.own.from_base, room.own.below_end)) in
        absurd (cc (free_at-tested (is_reserved_by r) cidr (a.number - cidr.base) false free, nowhere))
