-- A pool's slots lie in it, side by side, and each address of the pool lies in one.
use Rattle.std.proofs.Common.{◌≡◌, ℕ, ◌+◌, ◌-◌, ◌*◌, ◌/◌, ◌%◌, ◌^◌, ◌<◌, ◌≤◌, sym, ap, ap₂, ◌∙◌, arith, inl, inr, mod-eq_of_lt}
use Rattle.std.proofs.lemmas.Nat.{pow-add, pow_pos, shr_split, shr_below, row_fits, mod_low, mod_below, div-mul-add}
use Rattle.std.proofs.lemmas.Bool.{cases_order}
use Rattle.std.proofs.Math.Nat.{mul_assoc, add-mul-mod_self_right}
use Rattle.ipam_addr.specs.declared.address.Family.{Family}
use Rattle.ipam_addr.specs.declared.address.Family.TheVariants.{V4, V6}
use Rattle.ipam_addr.specs.Shape.{AddrValue, CidrValue}
use Rattle.ipam_addr.specs.Width.{width, address_count, size_of, IsCidr}
use Rattle.ipam_addr.specs.Holding.{first_address, cidr_end, Holds, LiesIn}
use Rattle.ipam_addr.specs.Slots.{AllowsSize, HasSlots, last_slot_of, slot_of, IsApart, IsOnlySlot}
use Rattle.ipam_addr.proofs.CidrLemmas.{cidr_end-le, address_count-le, multiple}

pub size_within : (f : Family) (size : ℕ) → AllowsSize f size → (size ≤ width f) × (width f - size ≤ 12)
size_within V4 size h = (h.1, omega arith)
size_within V6 size h = (h.1, omega arith)

-- a pool is so many slots
pub slots_fill : (w size p : ℕ) → p ≤ size → size ≤ w → 2 ^ (size - p) * 2 ^ (w - size) ≡ 2 ^ (w - p)
slots_fill w size p above within =
    let whole : size - p + (w - size) ≡ w - p = omega arith in
    sym (pow-add 2 (size - p) (w - size)) ∙ ap (λ n. 2 ^ n) whole

-- a slot ends within the pool
pub slot_end : (pool : CidrValue) (size k : ℕ) → HasSlots pool size → k ≤ last_slot_of pool size → cidr_end (slot_of pool size k) ≤ cidr_end pool
slot_end pool size k h within =
    let w = width pool.family in
    let (fits, _) = size_within pool.family size h.allowed in
    let some = pow_pos (size - pool.prefix) in
    let fill = slots_fill w size pool.prefix h.fits fits in
    let room = row_fits k (2 ^ (w - size)) (2 ^ (size - pool.prefix)) (2 ^ (w - size)) (omega arith) (omega arith) in
    omega arith

-- a multiple of the pool's size is one of a slot's size
coarser : (w size p b : ℕ) → p ≤ size → size ≤ w → b % 2 ^ (w - p) ≡ 0 → b % 2 ^ (w - size) ≡ 0
coarser w size p b above within aligned =
    let q = b / 2 ^ (w - p) in
    let i = 2 ^ (size - p) in
    let d = 2 ^ (w - size) in
    let regroup = mul_assoc q i d ∙ ap (λ n. q * n) (slots_fill w size p above within) in
    let shown : b ≡ q * i * d + 0 = omega (arith, regroup, multiple b (w - p) aligned) in
    ap (λ n. n % d) shown ∙ mod_low (q * i) (w - size) 0 (pow_pos (w - size))

pub slot_sound : (pool : CidrValue) (size k : ℕ) → IsCidr pool → HasSlots pool size → k ≤ last_slot_of pool size → IsCidr (slot_of pool size k)
slot_sound pool size k r h within =
    let w = width pool.family in
    let (fits, _) = size_within pool.family size h.allowed in
    let end = cidr_end-le pool r in
    let slot = slot_end pool size k h within in
    let some = pow_pos (w - size) in
    record {
      prefix_fits = fits;
      base_fits = omega arith;
      no_host_bits = add-mul-mod_self_right pool.base k (2 ^ (w - size))
          ∙ coarser w size pool.prefix pool.base h.fits fits r.no_host_bits;
    }

pub slot_within : (pool : CidrValue) (size k : ℕ) → HasSlots pool size → k ≤ last_slot_of pool size → LiesIn (slot_of pool size k) pool
slot_within pool size k h within a held =
    let end = slot_end pool size k h within in
    record {
      same_family = held.same_family;
      from_base = omega (arith, held.from_base);
      below_end = omega (arith, held.below_end);
    }

pub slots_apart : (pool : CidrValue) (size k : ℕ) → IsApart pool size k
slots_apart pool size k j within other o =
    let d = size_of pool.family size in
    elim (cases_order j k) [
      | inl same ↦ absurd (other same)
      | inr (inl before) ↦ absurd (omega (arith, row_fits j d k d before (omega arith), o.second_reaches))
      | inr (inr after) ↦ absurd (omega (arith, row_fits k d j d after (omega arith), o.first_reaches))
    ]

-- the number that the code computes is that of the slot that holds the address
pub slot_number_last : (pool : CidrValue) (size : ℕ) (a : AddrValue) → HasSlots pool size → Holds pool a → (a.number - pool.base) / size_of pool.family size ≤ last_slot_of pool size
slot_number_last pool size a h held =
    let w = width pool.family in
    let (fits, _) = size_within pool.family size h.allowed in
    let whole : size - pool.prefix + (w - size) ≡ w - pool.prefix = omega (arith, h.fits) in
    let below : a.number - pool.base < 2 ^ (size - pool.prefix + (w - size)) = rw whole (omega (arith, held.below_end, held.from_base)) in
    let row = shr_below (a.number - pool.base) (size - pool.prefix) (w - size) below in
    omega arith

pub slot_number_holds : (pool : CidrValue) (size : ℕ) (a : AddrValue) → Holds pool a → Holds (slot_of pool size ((a.number - pool.base) / size_of pool.family size)) a
slot_number_holds pool size a held =
    let d = width pool.family - size in
    let split = shr_split (a.number - pool.base) d in
    let rest = mod_below (a.number - pool.base) (2 ^ d) (pow_pos d) in
    record {
      same_family = held.same_family;
      from_base = omega (arith, held.from_base);
      below_end = omega (arith, held.from_base);
    }

pub slot_number_only : (pool : CidrValue) (size : ℕ) (a : AddrValue) → IsOnlySlot pool size a ((a.number - pool.base) / size_of pool.family size)
slot_number_only pool size a j held =
    let d = size_of pool.family size in
    let rest = a.number - pool.base - j * d in
    let whole : a.number - pool.base ≡ j * d + rest = omega (arith, held.from_base) in
    rw whole (sym (div-mul-add j d rest (omega (arith, held.from_base, held.below_end))))

-- where a slot begins, as the code computes it
pub slot_offset : (pool : CidrValue) (size k w : ℕ) → IsCidr pool → HasSlots pool size → k ≤ last_slot_of pool size → w ≡ width pool.family → k * 2 ^ (w - size) % 2 ^ 128 ≡ k * size_of pool.family size
slot_offset pool size k w r h within w_is =
    let end = cidr_end-le pool r in
    let slot = slot_end pool size k h within in
    let most = address_count-le pool.family in
    let some = pow_pos (width pool.family - size) in
    let fits : k * size_of pool.family size < 2 ^ 128 = omega arith in
    ap (λ v. k * 2 ^ (v - size) % 2 ^ 128) w_is ∙ mod-eq_of_lt fits

-- the slot that the code makes
pub slot_first : (pool : CidrValue) (size k : ℕ) (f : Family) (b w : ℕ) → IsCidr pool → HasSlots pool size → k ≤ last_slot_of pool size → (record { family = f; number = b }) ≡ first_address pool → w ≡ width f → (b + k * 2 ^ (w - size) % 2 ^ 128 < 2 ^ 128) × (b + k * 2 ^ (w - size) % 2 ^ 128 < address_count f) × ((record { family = f; base = b + k * 2 ^ (w - size) % 2 ^ 128; prefix = size }) ≡ slot_of pool size k)
slot_first pool size k f b w r h within first w_is =
    let same_family : f ≡ pool.family = ap (λ (a : AddrValue). a.family) first in
    let same_base : b ≡ pool.base = ap (λ (a : AddrValue). a.number) first in
    let offset = slot_offset pool size k w r h within (w_is ∙ ap width same_family) in
    let sound = slot_sound pool size k r h within in
    let most = address_count-le pool.family in
    let same : b + k * 2 ^ (w - size) % 2 ^ 128 ≡ (slot_of pool size k).base = omega arith in
    let below : b + k * 2 ^ (w - size) % 2 ^ 128 < address_count pool.family = omega (arith, sound.base_fits) in
    let made : Family → ℕ → CidrValue = λ g n. record { family = g; base = n; prefix = size } in
    (omega arith, rw same_family below, ap₂ made same_family same)

-- the number of the slot, as the code computes it
pub slot_number_at : (pool : CidrValue) (size w : ℕ) (a b c : AddrValue) → b ≡ a → c ≡ first_address pool → w ≡ width b.family → Holds pool a → (b.number - c.number) / 2 ^ (w - size) ≡ (a.number - pool.base) / size_of pool.family size
slot_number_at pool size w a b c same first w_is held =
    let wide : w ≡ width pool.family = w_is ∙ ap (λ (x : AddrValue). width x.family) same ∙ ap width held.same_family in
    let number : b.number ≡ a.number = ap (λ (x : AddrValue). x.number) same in
    let base : c.number ≡ pool.base = ap (λ (x : AddrValue). x.number) first in
    ap₂ (λ m n. (m - n) / 2 ^ (w - size)) number base
    ∙ ap (λ v. (a.number - pool.base) / 2 ^ (v - size)) wide
