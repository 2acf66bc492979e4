-- The slot of a table that holds an address.
use Rattle.std.proofs.Common.{◌≡◌, ℕ, ◌+◌, ◌-◌, ◌*◌, ◌/◌, ◌%◌, ◌^◌, ◌<◌, ◌≤◌, ◌↔◌, true, List, Some, inl, inr, ap, ap₂, sym, ◌∙◌, arith, refl, subst}
use Rattle.std.specs.Prelude.{All, Any, slice_get}
use Rattle.std.specs.List.{list_any}
use Rattle.std.proofs.lemmas.Bool.{and_parts, and_from, cases_order, eqb-true, eq-eqb}
use Rattle.std.proofs.lemmas.Nat.{pow_pos, row_fits}
use Rattle.std.proofs.lemmas.List.Folds.{Any-from_list_any, list_any-from_Any}
use Rattle.std.proofs.lemmas.Option.{get_or_from_slice_get, slice_get_within, same_Some}
use Rattle.ipam_addr.specs.declared.address.Family.{Family}
use Rattle.ipam_addr.specs.Shape.{AddrValue, CidrValue}
use Rattle.ipam_addr.specs.Width.{IsCidr, width, size_of}
use Rattle.ipam_addr.specs.Holding.{first_address, Holds, Overlap}
use Rattle.ipam_addr.proofs.HoldingLemmas.{holds_from, holds_test}
use Rattle.ipam_addr.specs.Slots.{HasSlots, slot_of}
use Rattle.ipam_addr.proofs.CidrLemmas.{Overlap-ShareAddress, multiple}
use Rattle.ipam_addr.proofs.SlotLemmas.{slot_within, slot_sound, slot_number_last, slot_number_holds, slot_number_only}
use Rattle.ipam_pool.specs.declared.pools.Pool.{Pool}
use Rattle.ipam_pool.specs.Sound.{IsPoolTable}
use Rattle.ipam_pool.specs.Slots.{IsSlotOf, is_slot_of, LiesInSlot, AtMostOneSlot}

at_place : (P : Pool → Type 0) (pools : List Pool) (k : ℕ) (p : Pool) → All P pools → slice_get pools k ≡ Some p → P p
at_place P pools k p all at =
    subst P (get_or_from_slice_get pools k p p at) (all k p (slice_get_within pools k p at))

-- the pool of a slot that holds the address holds it
in_pool : (pools : List Pool) (addr : AddrValue) (s : ℕ × ℕ) (h : IsPoolTable pools) (l : LiesInSlot pools addr s) → Holds l.pool.cidr addr
in_pool pools addr s h l =
    let slots = at_place (λ p. HasSlots p.cidr p.size) pools s.0 l.pool h.sizes l.at_place in
    slot_within l.pool.cidr l.pool.size s.1 slots l.within addr l.holds

-- two places whose pools hold the address are no two
not_before : (pools : List Pool) (addr : AddrValue) (s t : ℕ × ℕ) → IsPoolTable pools → LiesInSlot pools addr s → LiesInSlot pools addr t → s.0 < t.0 → ⊥
not_before pools addr s t h l m before =
    let first = at_place (λ p. IsCidr p.cidr) pools s.0 l.pool h.ranges l.at_place in
    let second = at_place (λ p. IsCidr p.cidr) pools t.0 m.pool h.ranges m.at_place in
    let met = (Overlap-ShareAddress l.pool.cidr m.pool.cidr first second).1 (addr, in_pool pools addr s h l, in_pool pools addr t h m) in
    let apart = h.apart s.0 t.0 l.pool before (slice_get_within pools t.0 m.pool m.at_place) in
    let here = get_or_from_slice_get pools s.0 l.pool l.pool l.at_place in
    let there = get_or_from_slice_get pools t.0 m.pool l.pool m.at_place in
    let unmet : ¬ (Overlap l.pool.cidr m.pool.cidr) = rw (here, there) at apart in
    unmet met

pub at_most_one : (pools : List Pool) (addr : AddrValue) → IsPoolTable pools → AtMostOneSlot pools addr
at_most_one pools addr h s t l m = elim (cases_order s.0 t.0) [
  | inl same ↦
      let pool : l.pool ≡ m.pool = same_Some _ _ (sym l.at_place ∙ ap (λ k. slice_get pools k) same ∙ m.at_place) in
      let first = slot_number_only l.pool.cidr l.pool.size addr s.1 l.holds in
      let second = slot_number_only m.pool.cidr m.pool.size addr t.1 m.holds in
      let number = ap (λ (p : Pool). (addr.number - p.cidr.base) / size_of p.cidr.family p.size) pool in
      ap₂ (λ (a b : ℕ). (a, b)) same (first ∙ number ∙ sym second)
  | inr (inl before) ↦ absurd (not_before pools addr s t h l m before)
  | inr (inr after) ↦ absurd (not_before pools addr t s h m l after)
]

-- two multiples of a power of 2 that lie nearer than it are the same
near : (k a b : ℕ) → a % 2 ^ k ≡ 0 → b % 2 ^ k ≡ 0 → a ≤ b → b < a + 2 ^ k → b ≡ a
near k a b first second from below =
    let d = 2 ^ k in
    let at_a = multiple a k first in
    let at_b = multiple b k second in
    let some = pow_pos k in
    elim (cases_order (a / d) (b / d)) [
      | inl same ↦ let e = ap (λ n. n * d) same in omega arith
      | inr (inl before) ↦ let room = row_fits (a / d) d (b / d) d before (omega arith) in absurd (omega arith)
      | inr (inr after) ↦ let room = row_fits (b / d) d (a / d) d after (omega arith) in absurd (omega arith)
    ]

pub slot_from_test : (p : Pool) (r : CidrValue) → IsCidr p.cidr → HasSlots p.cidr p.size → IsCidr r → is_slot_of p r ≡ true → IsSlotOf p r
slot_from_test p r sound slots range test =
    let (size_is, inside) = and_parts _ _ test in
    let size : r.prefix ≡ p.size = eqb-true _ _ size_is in
    let held = holds_from p.cidr (first_address r) inside in
    let k = (r.base - p.cidr.base) / size_of p.cidr.family p.size in
    let last = slot_number_last p.cidr p.size (first_address r) slots held in
    let own = slot_number_holds p.cidr p.size (first_address r) held in
    let whole = slot_sound p.cidr p.size k sound slots last in
    let aligned : r.base % size_of p.cidr.family p.size ≡ 0 = sym (ap₂ (λ f s. r.base % size_of f s) held.same_family size) ∙ range.no_host_bits in
    let base = near (width p.cidr.family - p.size) (slot_of p.cidr p.size k).base r.base whole.no_host_bits aligned own.from_base own.below_end in
    let made : Family → ℕ → ℕ → CidrValue = λ f b s. record { family = f; base = b; prefix = s } in
    record {
      number = k;
      within = last;
      is = ap₂ (λ f b. made f b r.prefix) held.same_family base ∙ ap (λ s. made p.cidr.family (slot_of p.cidr p.size k).base s) size;
    }

pub test_of_slot : (p : Pool) (r : CidrValue) → HasSlots p.cidr p.size → IsSlotOf p r → is_slot_of p r ≡ true
test_of_slot p r slots h =
    let s = slot_of p.cidr p.size h.number in
    let some = pow_pos (width p.cidr.family - p.size) in
    let first : Holds s (first_address s) = record { same_family = refl; from_base = omega arith; below_end = omega arith } in
    let held = slot_within p.cidr p.size h.number slots h.within (first_address s) first in
    subst (λ x. is_slot_of p x ≡ true) (sym h.is) (and_from _ _ (eq-eqb p.size p.size refl) (holds_test p.cidr (first_address s) held))

pub any_slot : (pools : List Pool) (r : CidrValue) → IsPoolTable pools → IsCidr r → (list_any (λ p. is_slot_of p r) pools ≡ true) ↔ Any (λ p. IsSlotOf p r) pools
any_slot pools r h sound = (forward, backward)
  where
    forward : list_any (λ p. is_slot_of p r) pools ≡ true → Any (λ p. IsSlotOf p r) pools
    forward test =
        let (k, p, within, at, passes) = Any-from_list_any (λ p. is_slot_of p r) pools test in
        let range : IsCidr p.cidr = subst (λ (x : Pool). IsCidr x.cidr) at (h.ranges k p within) in
        let slots : HasSlots p.cidr p.size = subst (λ (x : Pool). HasSlots x.cidr x.size) at (h.sizes k p within) in
        (k, p, within, at, slot_from_test p r range slots sound passes)

    backward : Any (λ p. IsSlotOf p r) pools → list_any (λ p. is_slot_of p r) pools ≡ true
    backward (k, p, within, at, is) =
        let slots : HasSlots p.cidr p.size = subst (λ (x : Pool). HasSlots x.cidr x.size) at (h.sizes k p within) in
        list_any-from_Any (λ p. is_slot_of p r) pools (k, p, within, at, test_of_slot p r slots is)
