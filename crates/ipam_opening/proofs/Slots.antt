-- Whether a CIDR is a slot of one of the pools.
use Rattle.std.proofs.Common.{◌≡◌, inl, inr, Bool, true, false, List, refl, sym}
use Rattle.std.specs.Prelude.{Any, IsTrue, ◌↔◌}
use Rattle.std.specs.List.{list_any}
use Rattle.std.proofs.lemmas.Bool.{cases_Bool}
use Rattle.ipam_addr.specs.Shape.{CidrValue}
use Rattle.ipam_addr.specs.Width.{IsCidr}
use Rattle.ipam_pool.specs.declared.pools.Pool.{Pool}
use Rattle.ipam_pool.specs.Sound.{IsPoolTable}
use Rattle.ipam_pool.specs.Slots.{IsSlotOf, is_slot_of}
use Rattle.ipam_pool.proofs.SlotsLemmas.{any_slot}

pub slot-is : (pools : List Pool) (cidr : CidrValue) → IsPoolTable pools → IsCidr cidr → (b : Bool) → (IsTrue b ↔ Any (λ p. IsSlotOf p cidr) pools) → b ≡ list_any (λ p. is_slot_of p cidr) pools
slot-is pools cidr table range true h = sym ((any_slot pools cidr table range).1 (h.0 refl))
slot-is pools cidr table range false h = elim (cases_Bool (list_any (λ p. is_slot_of p cidr) pools)) [
  | inl some ↦ let t : false ≡ true = h.1 ((any_slot pools cidr table range).0 some) in absurd (cc t)
  | inr none ↦ sym none
]
