-- Over every history the counts stay above what is held.
use Rattle.std.proofs.Common.{◌≡◌, ◌≢◌, ℕ, zero, suc, ◌+◌, ◌<◌, ◌≤◌, inl, inr, List, [], ◌∷◌, Option, Some, None, refl, sym, ap, ◌∙◌, arith, eqb-true}
use Rattle.std.specs.Prelude.{◌==◌}
use Rattle.std.specs.List.{range_with_len, sum_by}
use Rattle.std.proofs.lemmas.Bool.{cases_Bool, eqb-false}
use Rattle.std.proofs.lemmas.List.Sums.{sum_by-cons}
use Rattle.ipam_addr.specs.Shape.{CidrValue}
use Rattle.ipam_records.specs.Sound.{IsDatastore}
use Rattle.ipam_model.specs.declared.entry.Entry.{Entry}
use Rattle.ipam_model.specs.Cluster.{RunningRequest}
use Rattle.ipam_model.specs.CountLaw.{handle_count, held_count, credit_of_slot, credits, IsCovered, CountLaw, CreditLaw}
use Rattle.ipam_model.specs.History.{Base, Lawful, cluster_at, store_at, slot_of_entry}
use Rattle.ipam_laws.proofs.SlotSteps.{Turn, label_in, label_at, known_at, turn-of}
use Rattle.ipam_laws.proofs.CountSteps.{owed}
use Rattle.ipam_laws.proofs.CountKinds.{step-counts}

-- ---- a sum over the slots of which one changes

-- the numbers from one on, of so many
unfoldable pub sum_with : (f : ℕ → ℕ) → (many from : ℕ) → ℕ
sum_with f zero from = 0
sum_with f (suc many) from = f from + sum_with f many (from + 1)

pub sum-with : (f : ℕ → ℕ) (many from : ℕ) → sum_by f (range_with_len from many) ≡ sum_with f many from
unfolding sum_with
sum-with f zero from = refl
sum-with f (suc many) from = sum_by-cons f from (range_with_len (from + 1) many) ∙ ap (λ n. f from + n) (sum-with f many (from + 1))

same_sum : (f g : ℕ → ℕ) (slot : ℕ) → ((other : ℕ) → other ≢ slot → f other ≡ g other) → (many from : ℕ) → slot < from → sum_with f many from ≡ sum_with g many from
unfolding sum_with
same_sum f g slot same zero from below = refl
same_sum f g slot same (suc many) from below =
    let here = same from (λ e. absurd (omega arith)) in
    let there = same_sum f g slot same many (from + 1) (omega arith) in
    omega arith

pub changed_sum : (f g : ℕ → ℕ) (slot : ℕ) → ((other : ℕ) → other ≢ slot → f other ≡ g other) → (many from : ℕ) → from ≤ slot → slot < from + many → sum_with f many from + g slot ≡ sum_with g many from + f slot
unfolding sum_with
changed_sum f g slot same zero from above below = absurd (omega arith)
changed_sum f g slot same (suc many) from above below = elim (cases_Bool (from == slot)) [
  | inl here ↦
      let is = eqb-true from slot here in
      let rest = same_sum f g slot same many (from + 1) (omega arith) in
      let one = ap f is in
      let other = ap g is in
      omega arith
  | inr there ↦
      let differ = eqb-false from slot there in
      let rest = changed_sum f g slot same many (from + 1) (grind arith) (omega arith) in
      let head = same from differ in
      omega arith
]

-- what a slot owes is what its label says
pub credit-label : (id : List ℕ) (cidr : CidrValue) (running : Option RunningRequest) → credit_of_slot id cidr running ≡ owed id cidr (label_in running)
credit-label id cidr None = refl
credit-label id cidr (Some running) = refl

-- what the slot owes now is no more than where its step has come to
now-owes : (base : Base) (history : List Entry) (new : Entry) (turn : Turn base history new) (id : List ℕ) (cidr : CidrValue) → owed id cidr (label_at base (new ∷ history) (slot_of_entry new)) ≤ owed id cidr turn.reached
now-owes base history new turn id cidr = elim turn.now [
  | inl reached ↦ let e = ap (owed id cidr) reached in omega arith
  | inr idles ↦ let e = ap (owed id cidr) idles in omega arith
]

-- ---- every entry

-- what is held and owed is within the counts
IsWithin : Base → List Entry → Type 0
IsWithin base history = (id : List ℕ) (cidr : CidrValue) → held_count (store_at base history) id cidr + credits id cidr (cluster_at base history).slots ≤ handle_count (store_at base history) id cidr

entry-within : (base : Base) (history : List Entry) (new : Entry) → Turn base history new → IsWithin base history → IsWithin base (new ∷ history)
unfolding IsWithin
entry-within base history new turn within id cidr =
    let f : ℕ → ℕ = λ s. credit_of_slot id cidr ((cluster_at base (new ∷ history)).slots s) in
    let g : ℕ → ℕ = λ s. credit_of_slot id cidr ((cluster_at base history).slots s) in
    let one = sum-with f 64 0 in
    let two = sum-with g 64 0 in
    let change = changed_sum f g (slot_of_entry new) others 64 0 (omega arith) turn.below in
    let then = credit-label id cidr ((cluster_at base (new ∷ history)).slots (slot_of_entry new)) in
    let before = credit-label id cidr ((cluster_at base history).slots (slot_of_entry new)) in
    let now = now-owes base history new turn id cidr in
    let grown = step-counts (known_at base history) (store_at base history) (store_at base (new ∷ history)) (label_at base history (slot_of_entry new)) turn.reached turn.step id cidr in
    let k = within id cidr in
    omega arith
  where
    others : (other : ℕ) → other ≢ slot_of_entry new → credit_of_slot id cidr ((cluster_at base (new ∷ history)).slots other) ≡ credit_of_slot id cidr ((cluster_at base history).slots other)
    others other differ =
        credit-label id cidr ((cluster_at base (new ∷ history)).slots other)
        ∙ ap (owed id cidr) (turn.others other (λ e. differ (sym e)))
        ∙ sym (credit-label id cidr ((cluster_at base history).slots other))

pub none-owe : (id : List ℕ) (cidr : CidrValue) (many from : ℕ) → sum_with (λ slot. credit_of_slot id cidr None) many from ≡ 0
unfolding sum_with
none-owe id cidr zero from = refl
none-owe id cidr (suc many) from = let rest = none-owe id cidr many (from + 1) in omega arith

history-within : (base : Base) (history : List Entry) → IsDatastore base.store → IsCovered base.store → Lawful base history → IsWithin base history
unfolding IsWithin Lawful cluster_at
history-within base [] sound covered h = λ id cidr.
    let k = covered id cidr in
    let none = sum-with (λ slot. credit_of_slot id cidr None) 64 0 ∙ none-owe id cidr 64 0 in
    omega arith
history-within base (new ∷ history) sound covered h = entry-within base history new (turn-of base history new sound h) (history-within base history sound covered h.0)

pub credit_law : CreditLaw
unfolding IsWithin
credit_law base history sound covered h = history-within base history sound covered h

pub count_law : CountLaw
count_law base history sound covered h id cidr = let k = credit_law base history sound covered h id cidr in omega arith
