-- Where a CIDR ends, and which CIDRs share an address.
use Rattle.std.proofs.Common.{◌≡◌, ℕ, ◌+◌, ◌-◌, ◌*◌, ◌/◌, ◌%◌, ◌^◌, ◌<◌, ◌≤◌, ◌↔◌, refl, sym, ap, ◌∙◌, arith, bit_and, lit≤, inl, inr}
use Rattle.std.proofs.lemmas.Nat.{pow-add, pow_pos, shr_split, shr_below, row_fits, and_mask}
use Rattle.std.proofs.lemmas.Bool.{cases_lt}
use Rattle.ipam_addr.specs.declared.address.Family.{Family}
use Rattle.ipam_addr.specs.declared.address.Family.TheVariants.{V4, V6}
use Rattle.ipam_addr.specs.Shape.{CidrValue}
use Rattle.ipam_addr.specs.Width.{width, address_count, size_of, cidr_size, IsCidr}
use Rattle.ipam_addr.specs.Holding.{cidr_end, Overlap, ShareAddress}

-- a power of 2 in two factors
pub pow-split : (w k : ℕ) → k ≤ w → 2 ^ (w - k) * 2 ^ k ≡ 2 ^ w
pow-split w k within =
    let whole : w - k + k ≡ w = omega arith in
    sym (pow-add 2 (w - k) k) ∙ ap (λ n. 2 ^ n) whole

-- a multiple of 2 ^ k is a quotient times 2 ^ k
pub multiple : (b k : ℕ) → b % 2 ^ k ≡ 0 → b / 2 ^ k * 2 ^ k ≡ b
multiple b k aligned = omega (arith, shr_split b k)

-- after a multiple of 2 ^ k there is room for 2 ^ k numbers
pub aligned_end : (w k b : ℕ) → k ≤ w → b < 2 ^ w → b % 2 ^ k ≡ 0 → b + 2 ^ k ≤ 2 ^ w
aligned_end w k b within fits aligned =
    let split = pow-split w k within in
    let whole : w - k + k ≡ w = omega arith in
    let shown : b < 2 ^ (w - k + k) = rw whole fits in
    let below : b / 2 ^ k < 2 ^ (w - k) = shr_below b (w - k) k shown in
    let room = row_fits (b / 2 ^ k) (2 ^ k) (2 ^ (w - k)) (2 ^ k) below (omega arith) in
    omega (arith, multiple b k aligned)

pub address_count-width : (f : Family) → address_count f ≡ 2 ^ width f
address_count-width V4 = refl
address_count-width V6 = refl

pub address_count-le : (f : Family) → address_count f ≤ 2 ^ 128
address_count-le V4 = lit≤ tt
address_count-le V6 = lit≤ tt

pub width-le : (f : Family) → width f ≤ 128
width-le V4 = lit≤ tt
width-le V6 = lit≤ tt

-- a CIDR ends within its family
pub cidr_end-le : (r : CidrValue) → IsCidr r → cidr_end r ≤ address_count r.family
cidr_end-le r h =
    let count = address_count-width r.family in
    let fits : r.base < 2 ^ width r.family = omega (arith, h.base_fits) in
    let end = aligned_end (width r.family) (width r.family - r.prefix) r.base (omega arith) fits h.no_host_bits in
    omega arith

-- the last address of a CIDR, as the code computes it
pub last_fits : (r : CidrValue) (w n : ℕ) → IsCidr r → w ≡ width r.family → n ≡ 2 ^ (w - r.prefix) - 1 → (r.base + n < address_count r.family) × (r.base + n < 2 ^ 128) × (r.base + n + 1 ≡ cidr_end r)
last_fits r w n h w_is n_is =
    let size : 2 ^ (w - r.prefix) ≡ cidr_size r = ap (λ v. 2 ^ (v - r.prefix)) w_is in
    let some = pow_pos (width r.family - r.prefix) in
    let end = cidr_end-le r h in
    let most = address_count-le r.family in
    let step : r.base + n + 1 ≡ cidr_end r = omega arith in
    (omega arith, omega arith, step)

-- the bits after the prefix are the remainder
pub masked : (a w p m : ℕ) (f : Family) → w ≡ width f → m ≡ 2 ^ (w - p) - 1 → bit_and a m ≡ a % size_of f p
masked a w p m f w_is m_is =
    ap (λ v. bit_and a v) m_is ∙ and_mask a (w - p) ∙ ap (λ v. a % 2 ^ (v - p)) w_is

-- two CIDRs overlap exactly where some address lies in both
pub Overlap-ShareAddress : (r s : CidrValue) → IsCidr r → IsCidr s → Overlap r s ↔ ShareAddress r s
Overlap-ShareAddress r s hr hs = (shared, overlapping)
  where
    shared : Overlap r s → ShareAddress r s
    shared o =
        let some_r = pow_pos (width r.family - r.prefix) in
        let some_s = pow_pos (width s.family - s.prefix) in
        elim (cases_lt r.base s.base) [
          | inl below ↦ (
            record { family = s.family; number = s.base },
            record { same_family = sym o.same_family; from_base = omega arith; below_end = o.first_reaches },
            record { same_family = refl; from_base = omega arith; below_end = omega arith },
          )
          | inr above ↦ (
            record { family = r.family; number = r.base },
            record { same_family = refl; from_base = omega arith; below_end = omega arith },
            record { same_family = o.same_family; from_base = above; below_end = o.second_reaches },
          )
        ]

    overlapping : ShareAddress r s → Overlap r s
    overlapping p = record {
      same_family = sym p.1.same_family ∙ p.2.same_family;
      first_reaches = omega (arith, p.2.from_base, p.1.below_end);
      second_reaches = omega (arith, p.1.from_base, p.2.below_end);
    }
