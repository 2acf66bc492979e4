-- A pool that is changed stays where it is, and the others stay as they are.
use Rattle.std.proofs.Common.{◌≡◌, ◌≢◌, ℕ, zero, suc, ◌<◌, Bool, true, false, List, [], ◌∷◌, length, get_or, map, set, inl, inr, ap, ap₂, sym, ◌∙◌, arith, refl}
use Rattle.std.specs.Prelude.{AllPairs}
use Rattle.std.proofs.lemmas.Bool.{false_from_ne_true, cases_order}
use Rattle.std.proofs.lemmas.List.{length-map, get_or-map}
use Rattle.std.proofs.lemmas.List.Elements.{All-map}
use Rattle.std.proofs.lemmas.Slice.Eq.{bytes_eq-Decides}
use Rattle.ipam_addr.specs.Width.{IsCidr}
use Rattle.ipam_addr.specs.Holding.{Overlap}
use Rattle.ipam_addr.specs.Slots.{HasSlots}
use Rattle.ipam_select.specs.Formula.{Formula}
use Rattle.ipam_pool.specs.declared.pools.Mode.{Mode}
use Rattle.ipam_pool.specs.declared.pools.Pool.{Pool}
use Rattle.ipam_pool.specs.Changes.{has_name, with_named_disabled, with_disabled, with_named_rules, with_rules}
use Rattle.ipam_pool.specs.Sound.{IsPoolTable}

-- what is made of each pool is a change of those of the name
record IsChange (name : List ℕ) (made changed : Pool → Pool) : Type 0 where
  named : (p : Pool) → has_name name p ≡ true → made p ≡ changed p
  other : (p : Pool) → has_name name p ≡ false → made p ≡ p

no_change : (name : List ℕ) (made changed : Pool → Pool) (pools : List Pool) (d : Pool) → IsChange name made changed → ((k : ℕ) → k < length pools → has_name name (get_or pools k d) ≡ false) → map made pools ≡ pools
no_change name made changed [] d is others = refl
no_change name made changed (p ∷ pools) d is others =
    ap₂ (λ x xs. x ∷ xs) (is.other p (others 0 (omega arith)))
    (no_change name made changed pools d is (λ k within. others (suc k) (omega arith)))

-- the pool at the place is the only one of the name
one_change : (name : List ℕ) (made changed : Pool → Pool) (pools : List Pool) (k : ℕ) (p : Pool) → IsChange name made changed → k < length pools → p ≡ get_or pools k p → has_name name p ≡ true → ((j : ℕ) → j < length pools → j ≢ k → has_name name (get_or pools j p) ≡ false) → set pools k (changed p) ≡ map made pools
one_change name made changed [] k p is within at named others = absurd (omega arith)
one_change name made changed (x ∷ pools) zero p is within at named others =
    let head : changed p ≡ made x = sym (is.named p named) ∙ ap made at in
    let rest = no_change name made changed pools p is (λ j below. others (suc j) (omega arith) (λ e. omega arith)) in
    ap₂ (λ y ys. y ∷ ys) head (sym rest)
one_change name made changed (x ∷ pools) (suc k) p is within at named others =
    let head = is.other x (others 0 (omega arith) (λ e. omega arith)) in
    let rest = one_change name made changed pools k p is (omega arith) at named (λ j below other. others (suc j) (omega arith) (λ e. other (omega arith))) in
    ap₂ (λ y ys. y ∷ ys) (sym head) rest

-- no other pool has the name
only_named : (name : List ℕ) (pools : List Pool) (k : ℕ) (p : Pool) → IsPoolTable pools → k < length pools → p ≡ get_or pools k p → has_name name p ≡ true → (j : ℕ) → j < length pools → j ≢ k → has_name name (get_or pools j p) ≡ true → ⊥
only_named name pools k p h within at named j below other same =
    let here = (bytes_eq-Decides p.name name).0 named in
    let there = (bytes_eq-Decides (get_or pools j p).name name).0 same in
    let here_at : (get_or pools k p).name ≡ name = sym (ap (λ (x : Pool). x.name) at) ∙ here in
    elim (cases_order j k) [
      | inl at_k ↦ other at_k
      | inr (inl before) ↦ h.names j k p before within (there ∙ sym here_at)
      | inr (inr after) ↦ h.names k j p after below (here_at ∙ sym there)
    ]

-- a write to the pool of the name is the change
set-change : (name : List ℕ) (made changed : Pool → Pool) (pools : List Pool) (k : ℕ) (p : Pool) → IsChange name made changed → IsPoolTable pools → k < length pools → p ≡ get_or pools k p → has_name name p ≡ true → set pools k (changed p) ≡ map made pools
set-change name made changed pools k p is h within at named =
    one_change name made changed pools k p is within at named (λ j below other. false_from_ne_true _ (λ same. only_named name pools k p h within at named j below other same))

-- a write to the pool of the name is what disables it
pub set-with_disabled : (name : List ℕ) (disabled : Bool) (pools : List Pool) (k : ℕ) (p : Pool) → IsPoolTable pools → k < length pools → p ≡ get_or pools k p → has_name name p ≡ true → set pools k (record p { disabled = disabled }) ≡ with_disabled name disabled pools
set-with_disabled name disabled pools k p h within at named =
    let is : IsChange name (with_named_disabled name disabled) (λ p. record p { disabled = disabled }) = record { named = λ p named. rw named refl; other = λ p other. rw other refl } in
    set-change name (with_named_disabled name disabled) (λ p. record p { disabled = disabled }) pools k p is h within at named

-- a write to the pool of the name is what gives it the rules
pub set-with_rules : (name : List ℕ) (disabled : Bool) (mode : Mode) (selector : Formula) (pools : List Pool) (k : ℕ) (p : Pool) → IsPoolTable pools → k < length pools → p ≡ get_or pools k p → has_name name p ≡ true → set pools k (record p { disabled = disabled; mode = mode; selector = selector }) ≡ with_rules name disabled mode selector pools
set-with_rules name disabled mode selector pools k p h within at named =
    let is : IsChange name (with_named_rules name disabled mode selector) (λ p. record p { disabled = disabled; mode = mode; selector = selector }) = record { named = λ p named. rw named refl; other = λ p other. rw other refl } in
    set-change name (with_named_rules name disabled mode selector) (λ p. record p { disabled = disabled; mode = mode; selector = selector }) pools k p is h within at named

-- what holds of each two pools, by their names and CIDRs, holds still
pairs_stay : (R : Pool → Pool → Type 0) (f : Pool → Pool) (pools : List Pool) → ((x y : Pool) → R x y → R (f x) (f y)) → AllPairs R pools → AllPairs R (map f pools)
pairs_stay R f pools keeps h i j d before within =
    let below : j < length pools = omega (arith, length-map pools f) in
    rw (get_or-map f pools i d d (omega arith), get_or-map f pools j d d below) (keeps _ _ (h i j d before below))

pub IsPoolTable-with_disabled : (name : List ℕ) (disabled : Bool) (pools : List Pool) → IsPoolTable pools → IsPoolTable (with_disabled name disabled pools)
IsPoolTable-with_disabled name disabled pools h = record {
  few = rw length-map h.few;
  ranges = All-map (λ p. IsCidr p.cidr) (with_named_disabled name disabled) pools h.ranges;
  sizes = All-map (λ p. HasSlots p.cidr p.size) (with_named_disabled name disabled) pools h.sizes;
  names = pairs_stay (λ p q. p.name ≢ q.name) (with_named_disabled name disabled) pools (λ x y k. k) h.names;
  apart = pairs_stay (λ p q. ¬ (Overlap p.cidr q.cidr)) (with_named_disabled name disabled) pools (λ x y k. k) h.apart;
}

pub IsPoolTable-with_rules : (name : List ℕ) (disabled : Bool) (mode : Mode) (selector : Formula) (pools : List Pool) → IsPoolTable pools → IsPoolTable (with_rules name disabled mode selector pools)
IsPoolTable-with_rules name disabled mode selector pools h =
    let f = with_named_rules name disabled mode selector in
    record {
      few = rw length-map h.few;
      ranges = All-map (λ p. IsCidr p.cidr) f pools h.ranges;
      sizes = All-map (λ p. HasSlots p.cidr p.size) f pools h.sizes;
      names = pairs_stay (λ p q. p.name ≢ q.name) f pools (λ x y k. k) h.names;
      apart = pairs_stay (λ p q. ¬ (Overlap p.cidr q.cidr)) f pools (λ x y k. k) h.apart;
    }
