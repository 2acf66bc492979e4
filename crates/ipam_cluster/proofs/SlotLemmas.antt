-- What a change of one slot leaves in the others, and how many slots are busy.
use Rattle.std.proofs.Common.{◌≡◌, ◌≢◌, ℕ, ◌+◌, ◌≤◌, ◌<◌, ◌==◌, List, [], ◌∷◌, length, set, Option, Some, None, refl, sym, ap, ◌∙◌, subst, inl, inr, eqb-true, get_or-set_same, get_or-set_other, length-set, ◌^◌, arith}
use Rattle.std.proofs.lemmas.Bool.{eqb-false}
use Rattle.std.proofs.lemmas.Bool.{cases_Bool}
use Rattle.std.proofs.lemmas.List.Sums.{sum_by-set, sum_by-cons}
use Rattle.ipam_model.specs.Cluster as model
use Rattle.ipam_cluster.specs.declared.running.Running.{Running}
use Rattle.ipam_cluster.specs.Cluster.{IsSlot}
use Rattle.ipam_cluster.specs.Slots.{slot_in}
use Rattle.ipam_cluster.specs.Busy.{busy, busy_count}

-- the changed slot and the others
pub slots_with : (items : List (Option Running)) (slots : model.Slots) (slot : ℕ) (code : Option Running) (one : Option model.RunningRequest)
    → slot < length items → ((s : ℕ) → IsSlot (slot_in items s) (slots s)) → IsSlot code one
    → (s : ℕ) → IsSlot (slot_in (set items slot code) s) (model.with_slot slot one slots s)
slots_with items slots slot code one within all this s = elim (cases_Bool (s == slot)) [
  | inl same ↦
      let at : s ≡ slot = eqb-true s slot same in
      let is : slot_in (set items slot code) s ≡ code = ap (λ n. slot_in (set items slot code) n) at ∙ get_or-set_same items slot code None within in
      rw same (subst (λ (o : Option Running). IsSlot o one) (sym is) this)
  | inr differ ↦
      let other : s ≢ slot = λ e. eqb-false s slot differ e in
      let is : slot_in (set items slot code) s ≡ slot_in items s = get_or-set_other items slot s code None other in
      rw differ (subst (λ (o : Option Running). IsSlot o (slots s)) (sym is) (all s))
]

pub busy_few : (items : List (Option Running)) → busy_count items ≤ length items
busy_few [] = omega arith
busy_few (None ∷ rest) = let k = busy_few rest in let e : busy_count (None ∷ rest) ≡ busy None + busy_count rest = sum_by-cons busy None rest in omega (arith, k, e)
busy_few (Some running ∷ rest) = let k = busy_few rest in let e : busy_count (Some running ∷ rest) ≡ busy (Some running) + busy_count rest = sum_by-cons busy (Some running) rest in omega (arith, k, e)

busy_of : (code : Option Running) → (code ≡ None → ⊥) → busy code ≡ 1
busy_of None some = absurd (some refl)
busy_of (Some running) some = refl

-- with few entries there is room for one more, whatever runs
pub few_room : (items : List (Option Running)) (entries : ℕ) → length items ≡ 64 → entries < 2 ^ 62
    → entries + 1 + busy_count items ≤ 2 ^ 62 + 64
few_room items entries all few = let k = busy_few items in omega (arith, k, all, few)

-- and so where one slot has changed
pub put_room : (items : List (Option Running)) (slot entries : ℕ) (code : Option Running) → length items ≡ 64 → entries < 2 ^ 62
    → entries + 1 + busy_count (set items slot code) ≤ 2 ^ 62 + 64
put_room items slot entries code all few = few_room (set items slot code) entries (length-set items slot code ∙ all) few

-- what is stopped makes room for its entry
pub stop_room : (items : List (Option Running)) (slot entries : ℕ) → slot < length items → (slot_in items slot ≡ None → ⊥)
    → entries + busy_count items ≤ 2 ^ 62 + 64 → entries + 1 + busy_count (set items slot None) ≤ 2 ^ 62 + 64
stop_room items slot entries within some room =
    let k : busy_count (set items slot None) + busy (slot_in items slot) ≡ busy_count items + 0 = sum_by-set busy items slot None None within in
    let one = busy_of (slot_in items slot) some in
    omega (arith, k, one, room)
