-- Addresses and slots that a set leaves free.
use Rattle.std.proofs.Common.{◌≡◌, ℕ, ◌+◌, ◌-◌, ◌<◌, ◌≤◌, true, List, Option, Some, None, inl, inr, ap, sym, arith, refl, subst}
use Rattle.std.specs.Prelude.{IfSome, IsNone}
use Rattle.std.proofs.lemmas.Bool.{cases_lt}
use Rattle.std.proofs.lemmas.Nat.{pow_pos, row_fits}
use Rattle.ipam_addr.specs.declared.address.Family.{Family}
use Rattle.ipam_addr.specs.Shape.{AddrValue, CidrValue}
use Rattle.ipam_addr.specs.Width.{width, size_of, cidr_size}
use Rattle.ipam_addr.specs.Holding.{Holds, cidr_end}
use Rattle.ipam_addr.specs.Slots.{HasSlots, last_slot_of, slot_of}
use Rattle.ipam_addr.proofs.SlotLemmas.{slot_end}
use Rattle.ipam_pool.specs.declared.spans.Span.{Span}
use Rattle.ipam_pool.specs.Spans.{ReservedValue, spans_of, spans_hold, is_reserved_by, IsFirstGap, AllHeld}
use Rattle.ipam_pool.specs.Union.{address_at}
use Rattle.ipam_pool.specs.Free.{IsFull, IsFirstFree, IsNextSlot, AreFullFrom}

-- an address of the family whose number is held is reserved
reserved_at : (r : ReservedValue) (f : Family) (a : AddrValue) → a.family ≡ f → spans_hold (spans_of r f) a.number ≡ true → is_reserved_by r a ≡ true
reserved_at r f a same held =
    subst (λ g. spans_hold (spans_of r g) a.number ≡ true) (sym same) held

-- the same gap, by the addresses that its bounds are read from
pub gap_at : (r : ReservedValue) (spans : List Span) (a first b last : AddrValue) (n : ℕ) → spans ≡ spans_of r a.family → a ≡ first → b ≡ last → IsFirstGap spans a.number b.number n → IsFirstGap (spans_of r first.family) first.number last.number n
gap_at r spans a first b last n e same_first same_last gap =
    subst (λ (x : AddrValue). IsFirstGap (spans_of r x.family) x.number last.number n) same_first
    (subst (λ (y : AddrValue). IsFirstGap (spans_of r a.family) a.number y.number n) same_last
    (subst (λ s. IsFirstGap s a.number b.number n) e gap))

pub held_at : (r : ReservedValue) (spans : List Span) (a first b last : AddrValue) → spans ≡ spans_of r a.family → a ≡ first → b ≡ last → AllHeld spans a.number b.number → AllHeld (spans_of r first.family) first.number last.number
held_at r spans a first b last e same_first same_last all =
    subst (λ (x : AddrValue). AllHeld (spans_of r x.family) x.number last.number) same_first
    (subst (λ (y : AddrValue). AllHeld (spans_of r a.family) a.number y.number) same_last
    (subst (λ s. AllHeld s a.number b.number) e all))

pub first_free : (r : ReservedValue) (cidr : CidrValue) (n last : ℕ) → last ≡ cidr.base + cidr_size cidr - 1 → IsFirstGap (spans_of r cidr.family) cidr.base last n → IsFirstFree r cidr (address_at cidr.family n)
first_free r cidr n last end gap =
    let some = pow_pos (width cidr.family - cidr.prefix) in
    let above = gap.above in
    let within = gap.within in
    record {
      own = record { same_family = refl; from_base = above; below_end = omega arith };
      free = gap.free;
      least = λ b held before.
          reserved_at r cidr.family b held.same_family (gap.least b.number held.from_base before);
    }

-- a CIDR with a free address is not full
pub not_full : (r : ReservedValue) (cidr : CidrValue) (a : AddrValue) → IsFirstFree r cidr a → IsFull r cidr → ⊥
not_full r cidr a first all =
    let free = first.free in
    let held = all a first.own in
    cc

-- the slots in front of a slot end where it begins, or before
slots_ascend : (pool : CidrValue) (size j k : ℕ) → j < k → cidr_end (slot_of pool size j) ≤ (slot_of pool size k).base
slots_ascend pool size j k before =
    let d = size_of pool.family size in
    let room = row_fits j d k d before (omega arith) in
    omega arith

-- a slot from `from` on begins at the first of these or after it
slots_from : (pool : CidrValue) (size j k : ℕ) → j ≤ k → (slot_of pool size j).base ≤ (slot_of pool size k).base
slots_from pool size j k above = elim (cases_lt j k) [
  | inl before ↦
      let some = pow_pos (width pool.family - size) in
      let end = slots_ascend pool size j k before in
      omega arith
  | inr reached ↦
      let same : j ≡ k = omega arith in
      let e = ap (λ i. (slot_of pool size i).base) same in
      omega arith
]

-- where no number from a slot's first to the pool's last is free, its slot and the later ones are full
pub full_from : (r : ReservedValue) (pool : CidrValue) (size from first last : ℕ) → HasSlots pool size → first ≡ (slot_of pool size from).base → last ≡ pool.base + cidr_size pool - 1 → AllHeld (spans_of r pool.family) first last → AreFullFrom r pool size from
full_from r pool size from first last slots begins ends all j above within a held =
    let some = pow_pos (width pool.family - pool.prefix) in
    let start = slots_from pool size from j above in
    let end = slot_end pool size j slots within in
    let low = held.from_base in
    let high = held.below_end in
    reserved_at r pool.family a held.same_family (all a.number (omega arith) (omega arith))

-- the slot that holds the first free number is the first with room
pub next_slot : (r : ReservedValue) (pool : CidrValue) (size from first last n k : ℕ) → first ≡ (slot_of pool size from).base → IsFirstGap (spans_of r pool.family) first last n → k ≤ last_slot_of pool size → Holds (slot_of pool size k) (address_at pool.family n) → IsNextSlot r pool size from k
next_slot r pool size from first last n k begins gap within held = record {
  above = above;
  within = within;
  room = record { addr = address_at pool.family n; own = held; free = gap.free };
  least = λ j reached before a inside.
      let start = slots_from pool size from j reached in
      let end = slots_ascend pool size j k before in
      let base : (slot_of pool size k).base ≤ n = held.from_base in
      let low = inside.from_base in
      let high = inside.below_end in
      reserved_at r pool.family a inside.same_family (gap.least a.number (omega arith) (omega arith));
}
  where
    above : from ≤ k
    above = elim (cases_lt k from) [
      | inr reached ↦ reached
      | inl before ↦
          let end = slots_ascend pool size k from before in
          let high : n < cidr_end (slot_of pool size k) = held.below_end in
          let low = gap.above in
          absurd (omega arith)
    ]

-- a slot with room is not full
pub not_full_from : (r : ReservedValue) (pool : CidrValue) (size from k : ℕ) → IsNextSlot r pool size from k → AreFullFrom r pool size from → ⊥
not_full_from r pool size from k next all =
    let free = next.room.free in
    let held = all k next.above next.within next.room.addr next.room.own in
    cc

-- a slot of the pool begins at or before the pool's last address
pub slot_before_last : (pool : CidrValue) (size k : ℕ) → HasSlots pool size → k ≤ last_slot_of pool size → (slot_of pool size k).base ≤ pool.base + cidr_size pool - 1
slot_before_last pool size k slots within =
    let some = pow_pos (width pool.family - size) in
    let end = slot_end pool size k slots within in
    omega arith

-- the pool holds the gap that a search from one of its slots to its last address finds
pub pool_holds : (pool : CidrValue) (size from n first last : ℕ) (spans : List Span) → first ≡ (slot_of pool size from).base → last ≡ pool.base + cidr_size pool - 1 → IsFirstGap spans first last n → Holds pool (address_at pool.family n)
pool_holds pool size from n first last spans begins ends gap =
    let some = pow_pos (width pool.family - pool.prefix) in
    let above = gap.above in
    let within = gap.within in
    record { same_family = refl; from_base = omega arith; below_end = omega arith }

-- what a found slot tells of the slots that are full
pub next_tells : (r : ReservedValue) (pool : CidrValue) (size from : ℕ) (o : Option ℕ) → IfSome o (IsNextSlot r pool size from) → (IsNone o → ⊥) → (IsNone o → AreFullFrom r pool size from) × (AreFullFrom r pool size from → IsNone o)
next_tells r pool size from None next some = (λ none. absurd (some none), λ all. refl)
next_tells r pool size from (Some k) next some =
    (λ none. absurd (some none), λ all. absurd (not_full_from r pool size from k next all))

-- the slot of the gap, where a slot holds it
pub next_found : (r : ReservedValue) (pool : CidrValue) (size from first last n : ℕ) (a : AddrValue) (o : Option ℕ) → first ≡ (slot_of pool size from).base → IsFirstGap (spans_of r pool.family) first last n → a ≡ address_at pool.family n → IfSome o (λ k. k ≤ last_slot_of pool size) → IfSome o (λ k. Holds (slot_of pool size k) a) → IfSome o (IsNextSlot r pool size from)
next_found r pool size from first last n a None begins gap same within held = within
next_found r pool size from first last n a (Some k) begins gap same within held =
    next_slot r pool size from first last n k begins gap within (subst (Holds (slot_of pool size k)) same held)
