-- A part of a list that ascends.
use native.Mathlib.Omega.{arith}
use Rattle.std.proofs.Common.{◌≡◌, ℕ, zero, suc, ◌+◌, ◌-◌, length-drop, ◌<◌, ◌≤◌, inl, inr, List, [], ◌∷◌, length, get_or, take, drop, map, Result, IfOk, IfErr, refl, sym, subst, ap, ◌∙◌}
use Rattle.std.proofs.lemmas.Bool.{cases_order}
use Rattle.std.proofs.lemmas.List.{map-id}
use Rattle.std.proofs.Math.Seq.{take-length}
use Rattle.std.specs.declared.cmp.Ordering.{Ordering}
use Rattle.std.specs.declared.cmp.Ordering.TheVariants.{Less, Equal, Greater}
use Rattle.std.specs.List.{AllByRecursion}
use Rattle.std.specs.List.Sorted.{IsStrictlySortedBy, IsSearchInRange, IsBinarySearchResult}
use Rattle.ipam_addr.specs.Shape.{CidrValue}
use Rattle.ipam_addr.specs.Slots.{slot_of}
use Rattle.ipam_block.specs.Order.{cidr_cmp}
use Rattle.ipam_records.specs.KeyOrderLaws.{cidr_cmp_total}
use Rattle.ipam_records.specs.Places.{IsFoundAt, IsGapAt}
use Rattle.ipam_records.proofs.SearchLemmas.{searched, before_found, behind_found}
use Rattle.ipam_choice.specs.First.{Has}
use Rattle.ipam_choice.proofs.PoolLemmas.{slots_ascend}

abbrev Ascend : List CidrValue → Type 0
Ascend = IsStrictlySortedBy cidr_cmp

as_keys : (xs : List CidrValue) → Ascend xs → Ascend (map (λ x. x) xs)
as_keys xs = subst Ascend (sym (map-id xs))

pub blocks_searched : (xs : List CidrValue) → IsStrictlySortedBy cidr_cmp xs → (c : CidrValue) (r : Result ℕ ℕ) → IsSearchInRange r (length xs) → IsBinarySearchResult (λ x. cidr_cmp x c) xs r → record { found : IfOk r (IsFoundAt (λ x. cidr_cmp x c) xs); absent : IfErr r (IsGapAt (λ x. cidr_cmp x c) xs) }
blocks_searched xs s c = searched cidr_cmp cidr_cmp_total (λ x. x) xs (as_keys xs s) c

-- ---- what is kept
module _ {X : Type 0} (P : X → Type 0) where
  has_holds : (xs : List X) → ((j : ℕ) (d : X) → j < length xs → P (get_or xs j d)) → (x : X) → Has x xs → P x
  has_holds [] all x has = absurd has
  has_holds (y ∷ ys) all x (inl same) = subst P same (all 0 y (omega arith))
  has_holds (y ∷ ys) all x (inr later) = has_holds ys (λ j d h. all (suc j) d (omega arith)) x later

  has_drop : (xs : List X) (i : ℕ) → ((j : ℕ) (d : X) → j < i → P (get_or xs j d)) → (x : X) → Has x xs → (P x → ⊥) → Has x (drop i xs)
  has_drop xs zero before x has other = has
  has_drop [] (suc i) before x has other = absurd has
  has_drop (y ∷ ys) (suc i) before x (inl same) other = absurd (other (subst P same (before 0 y (omega arith))))
  has_drop (y ∷ ys) (suc i) before x (inr later) other = has_drop ys i (λ j d h. before (suc j) d (omega arith)) x later other

  has_take : (xs : List X) (i : ℕ) → ((j : ℕ) (d : X) → i ≤ j → j < length xs → P (get_or xs j d)) → (x : X) → Has x xs → (P x → ⊥) → Has x (take i xs)
  has_take xs zero behind x has other = absurd (other (has_holds xs (λ j d h. behind j d (omega arith) h) x has))
  has_take [] (suc i) behind x has other = absurd has
  has_take (y ∷ ys) (suc i) behind x (inl same) other = inl same
  has_take (y ∷ ys) (suc i) behind x (inr later) other = inr (has_take ys i (λ j d up h. behind (suc j) d (omega arith) (omega arith)) x later other)

-- ---- the part ascends
pub ascend-drop : (xs : List CidrValue) (i : ℕ) → IsStrictlySortedBy cidr_cmp xs → IsStrictlySortedBy cidr_cmp (drop i xs)
unfolding IsStrictlySortedBy
ascend-drop xs zero s = s
ascend-drop [] (suc i) s = tt
ascend-drop (x ∷ xs) (suc i) s = ascend-drop xs i s.1

all-take : (P : CidrValue → Type 0) (xs : List CidrValue) (i : ℕ) → AllByRecursion P xs → AllByRecursion P (take i xs)
all-take P xs zero all = tt
all-take P [] (suc i) all = tt
all-take P (x ∷ xs) (suc i) all = (all.0, all-take P xs i all.1)

pub ascend-take : (xs : List CidrValue) (i : ℕ) → IsStrictlySortedBy cidr_cmp xs → IsStrictlySortedBy cidr_cmp (take i xs)
unfolding IsStrictlySortedBy
ascend-take xs zero s = tt
ascend-take [] (suc i) s = tt
ascend-take (x ∷ xs) (suc i) s = (all-take (λ y. cidr_cmp x y ≡ Less) xs i s.0, ascend-take xs i s.1)

-- all of what is after a place
pub all-behind : (xs : List CidrValue) (i : ℕ) → drop i xs ≡ take (length xs - i) (drop i xs)
all-behind xs i = sym (ap (λ n. take n (drop i xs)) (sym (length-drop i xs)) ∙ take-length (drop i xs))

module _ (xs : List CidrValue) (c : CidrValue) where
  pub kept_from_gap : (i : ℕ) → IsGapAt (λ x. cidr_cmp x c) xs i → (x : CidrValue) → Has x xs → (cidr_cmp x c ≡ Less → ⊥) → Has x (drop i xs)
  kept_from_gap i gap = has_drop (λ x. cidr_cmp x c ≡ Less) xs i gap.before

  pub kept_from_found : (i : ℕ) → IsStrictlySortedBy cidr_cmp xs → IsFoundAt (λ x. cidr_cmp x c) xs i → (x : CidrValue) → Has x xs → (cidr_cmp x c ≡ Less → ⊥) → Has x (drop i xs)
  kept_from_found i s found = has_drop (λ x. cidr_cmp x c ≡ Less) xs i (before_found cidr_cmp cidr_cmp_total (λ x. x) xs (as_keys xs s) c i found)

  pub kept_to_gap : (i : ℕ) → IsGapAt (λ x. cidr_cmp x c) xs i → (x : CidrValue) → Has x xs → (cidr_cmp x c ≡ Greater → ⊥) → Has x (take i xs)
  kept_to_gap i gap = has_take (λ x. cidr_cmp x c ≡ Greater) xs i gap.behind

  pub kept_to_found : (i : ℕ) → IsStrictlySortedBy cidr_cmp xs → IsFoundAt (λ x. cidr_cmp x c) xs i → (x : CidrValue) → Has x xs → (cidr_cmp x c ≡ Greater → ⊥) → Has x (take (i + 1) xs)
  kept_to_found i s found = has_take (λ x. cidr_cmp x c ≡ Greater) xs (i + 1) (λ j d up h. behind_found cidr_cmp cidr_cmp_total (λ x. x) xs (as_keys xs s) c i found j d (omega arith) h)

-- ---- the slots of a pool stand between its first and its last one
itself : (c : CidrValue) (o : Ordering) → cidr_cmp c c ≡ o → (o ≡ Equal → ⊥) → ⊥
itself c Less is other = absurd (cc (cidr_cmp_total.antisymm c c, is))
itself c Equal is other = other refl
itself c Greater is other = absurd (cc (cidr_cmp_total.antisymm c c, is))

not_below_first : (pool : CidrValue) (size k : ℕ) → cidr_cmp (slot_of pool size k) (slot_of pool size 0) ≡ Less → ⊥
not_below_first pool size k less = elim (cases_order 0 k) [
  | inl same ↦ itself (slot_of pool size 0) Less (subst (λ (n : ℕ). cidr_cmp (slot_of pool size n) (slot_of pool size 0) ≡ Less) (sym same) less) (λ e. absurd (cc e))
  | inr (inl above) ↦
      let up = slots_ascend pool size 0 k above in
      itself (slot_of pool size 0) Less (cidr_cmp_total.trans (slot_of pool size 0) (slot_of pool size k) (slot_of pool size 0) up less) (λ e. absurd (cc e))
  | inr (inr below) ↦ absurd (omega arith)
]

not_above_last : (pool : CidrValue) (size k last : ℕ) → k ≤ last → cidr_cmp (slot_of pool size k) (slot_of pool size last) ≡ Greater → ⊥
not_above_last pool size k last within greater = elim (cases_order k last) [
  | inl same ↦ itself (slot_of pool size k) Greater (subst (λ (n : ℕ). cidr_cmp (slot_of pool size k) (slot_of pool size n) ≡ Greater) (sym same) greater) (λ e. absurd (cc e))
  | inr (inl before) ↦ absurd (cc (slots_ascend pool size k last before, greater))
  | inr (inr after) ↦ absurd (omega arith)
]

pub slots_not_below : (pool : CidrValue) (size k : ℕ) (first : CidrValue) → first ≡ slot_of pool size 0 → cidr_cmp (slot_of pool size k) first ≡ Less → ⊥
slots_not_below pool size k first is less = not_below_first pool size k (subst (λ (c : CidrValue). cidr_cmp (slot_of pool size k) c ≡ Less) is less)

pub slots_not_above : (pool : CidrValue) (size k n : ℕ) (last : CidrValue) → k ≤ n → last ≡ slot_of pool size n → cidr_cmp (slot_of pool size k) last ≡ Greater → ⊥
slots_not_above pool size k n last within is greater = not_above_last pool size k n within (subst (λ (c : CidrValue). cidr_cmp (slot_of pool size k) c ≡ Greater) is greater)
