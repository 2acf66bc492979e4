-- What comes first, among numbers and in a list that ascends.
use native.Mathlib.Omega.{arith}
use Rattle.std.proofs.Common.{◌≡◌, ℕ, zero, suc, ◌+◌, ◌<◌, ◌≤◌, Bool, true, false, cond, List, [], ◌∷◌, Option, Some, None, refl, sym, ap, ◌∙◌, subst, inl, inr, nat_le, eqb-true}
use Rattle.std.proofs.lemmas.Bool.{cases_Bool}
use Rattle.std.proofs.lemmas.Map.Keys.{sorted_head, sorted_tail}
use Rattle.std.specs.Prelude.{◌==◌}
use Rattle.std.specs.declared.cmp.Ordering.{Ordering}
use Rattle.std.specs.declared.cmp.Ordering.TheVariants.{Less}
use Rattle.std.specs.Cmp.{IsTotalOrder}
use Rattle.std.specs.List.{AllByRecursion}
use Rattle.std.specs.List.Sorted.{IsStrictlySortedBy}
use Rattle.std.specs.Option.{option_or}
use Rattle.ipam_model.specs.Choice.{first_found}
use Rattle.ipam_choice.specs.First.{first_of, earlier, Has}

-- ---- what is found at the first number

pub first_found-is : {A : Type 0} → (finds : ℕ → Option A) (many from k : ℕ) (a : A) → from ≤ k → k < from + many → finds k ≡ Some a → ((j : ℕ) → from ≤ j → j < k → finds j ≡ None) → first_found finds many from ≡ Some (k, a)
unfolding first_found
first_found-is finds zero from k a above below there least = absurd (omega arith)
first_found-is {A} finds (suc many) from k a above below there least = elim (cases_Bool (from == k)) [
  | inl same ↦
      let here : finds from ≡ Some a = subst (λ (m : ℕ). finds m ≡ Some a) (sym (eqb-true from k same)) there in
      ap (λ (o : Option A). elim o as (λ o. Option (ℕ × A)) [ Some found ↦ Some (from, found) | None ↦ first_found finds many (from + 1) ]) here
      ∙ ap (λ (m : ℕ). Some (m, a)) (eqb-true from k same)
  | inr other ↦
      let here : finds from ≡ None = least from (omega arith) (grind arith) in
      ap (λ (o : Option A). elim o as (λ o. Option (ℕ × A)) [ Some found ↦ Some (from, found) | None ↦ first_found finds many (from + 1) ]) here
      ∙ first_found-is finds many (from + 1) k a (grind arith) (omega arith) there (λ j up down. least j (omega arith) down)
]

pub first_found-nothing : {A : Type 0} → (finds : ℕ → Option A) (many from : ℕ) → ((j : ℕ) → from ≤ j → j < from + many → finds j ≡ None) → first_found finds many from ≡ None
unfolding first_found
first_found-nothing finds zero from none = refl
first_found-nothing {A} finds (suc many) from none =
    ap (λ (o : Option A). elim o as (λ o. Option (ℕ × A)) [ Some found ↦ Some (from, found) | None ↦ first_found finds many (from + 1) ]) (none from (omega arith) (omega arith))
    ∙ first_found-nothing finds many (from + 1) (λ j up down. none j (omega arith) (omega arith))

pub record IsFoundAt {A : Type 0} (finds : ℕ → Option A) (many from : ℕ) (found : ℕ × A) : Type 0 where
  pub above : from ≤ found.0
  pub below : found.0 < from + many
  pub there : finds found.0 ≡ Some found.1

pub first_found-some : {A : Type 0} → (finds : ℕ → Option A) (many from : ℕ) (found : ℕ × A) → first_found finds many from ≡ Some found → IsFoundAt finds many from found
unfolding first_found
first_found-some finds zero from found e = absurd (cc e)
first_found-some {A} finds (suc many) from found e = by (λ f. first_found-some finds many (from + 1) found f) (finds from) refl e
  where
    by : (first_found finds many (from + 1) ≡ Some found → IsFoundAt finds many (from + 1) found) → (o : Option A) → finds from ≡ o
        → elim o as (λ o. Option (ℕ × A)) [ Some a ↦ Some (from, a) | None ↦ first_found finds many (from + 1) ] ≡ Some found → IsFoundAt finds (suc many) from found
    by rest (Some a) is f =
        let same : (from, a) ≡ found = cc f in
        subst (λ (x : ℕ × A). IsFoundAt finds (suc many) from x) same (record { above = omega arith; below = omega arith; there = is })
    by rest None is f =
        let more = rest f in
        record { above = omega (arith, more.above); below = omega (arith, more.below); there = more.there }

-- ---- the earlier of two finds

first_step : {A : Type 0} → (finds : ℕ → Option A) (many from : ℕ) (o : Option A) → finds from ≡ o → first_found finds (suc many) from ≡ elim o as (λ o. Option (ℕ × A)) [ Some a ↦ Some (from, a) | None ↦ first_found finds many (from + 1) ]
unfolding first_found
first_step {A} finds many from o is = ap (λ (o : Option A). elim o as (λ o. Option (ℕ × A)) [ Some a ↦ Some (from, a) | None ↦ first_found finds many (from + 1) ]) is

earlier-first : {A : Type 0} (k : ℕ) (a : A) (o : Option (ℕ × A)) → ((found : ℕ × A) → o ≡ Some found → k ≤ found.0) → earlier (Some (k, a)) o ≡ Some (k, a)
earlier-first k a None behind = refl
earlier-first {A} k a (Some b) behind =
    let later : k ≤ b.0 = behind b refl in
    let test : nat_le k b.0 ≡ true = grind arith in
    ap (λ (t : Bool). cond t (Some (k, a)) (Some b)) test

earlier-second : {A : Type 0} (k : ℕ) (a : A) (o : Option (ℕ × A)) → ((found : ℕ × A) → o ≡ Some found → k < found.0) → earlier o (Some (k, a)) ≡ Some (k, a)
earlier-second k a None behind = refl
earlier-second {A} k a (Some b) behind =
    let later : k < b.0 = behind b refl in
    let test : nat_le b.0 k ≡ false = grind arith in
    ap (λ (t : Bool). cond t (Some b) (Some (k, a))) test

pub first_found-either : {A : Type 0} → (f g h : ℕ → Option A) → ((k : ℕ) → f k ≡ option_or (g k) (h k)) → (many from : ℕ) → first_found f many from ≡ earlier (first_found g many from) (first_found h many from)
unfolding first_found
first_found-either f g h either zero from = refl
first_found-either {A} f g h either (suc many) from = by (first_found-either f g h either many (from + 1)) (g from) refl (h from) refl
  where
    tail_of : Option A → Option (ℕ × A) → Option (ℕ × A)
    tail_of o rest = elim o as (λ o. Option (ℕ × A)) [ Some a ↦ Some (from, a) | None ↦ rest ]

    behind : (finds : ℕ → Option A) (o : Option A) → finds from ≡ o → (found : ℕ × A) → elim o as (λ o. Option (ℕ × A)) [ Some a ↦ Some (from, a) | None ↦ first_found finds many (from + 1) ] ≡ Some found → from ≤ found.0
    behind finds (Some a) is found e = let same : (from, a) ≡ found = cc e in subst (λ (x : ℕ × A). from ≤ x.0) same (omega arith)
    behind finds None is found e = let more = first_found-some finds many (from + 1) found e in omega (arith, more.above)

    by : first_found f many (from + 1) ≡ earlier (first_found g many (from + 1)) (first_found h many (from + 1)) → (o : Option A) → g from ≡ o → (p : Option A) → h from ≡ p → first_found f (suc many) from ≡ earlier (first_found g (suc many) from) (first_found h (suc many) from)
    by rest (Some a) is p his =
        first_step f many from (Some a) (either from ∙ ap (λ (o : Option A). option_or o (h from)) is)
        ∙ sym (ap (λ (o : Option (ℕ × A)). earlier o (first_found h (suc many) from)) (first_step g many from (Some a) is)
        ∙ earlier-first from a (first_found h (suc many) from) (λ found e. behind h p his found (sym (first_step h many from p his) ∙ e)))
    by rest None is (Some b) his =
        first_step f many from (Some b) (either from ∙ (ap (λ (o : Option A). option_or o (h from)) is ∙ his))
        ∙ sym (ap (λ (o : Option (ℕ × A)). earlier (first_found g (suc many) from) o) (first_step h many from (Some b) his)
        ∙ (ap (λ (o : Option (ℕ × A)). earlier o (Some (from, b))) (first_step g many from None is)
        ∙ earlier-second from b (first_found g many (from + 1)) (λ found e. let more = first_found-some g many (from + 1) found e in omega (arith, more.above))))
    by rest None is None his =
        first_step f many from None (either from ∙ (ap (λ (o : Option A). option_or o (h from)) is ∙ his))
        ∙ (rest
        ∙ sym (ap (λ (o : Option (ℕ × A)). earlier o (first_found h (suc many) from)) (first_step g many from None is)
        ∙ ap (λ (o : Option (ℕ × A)). earlier (first_found g many (from + 1)) o) (first_step h many from None his)))

pub earlier-none : {A : Type 0} (o : Option (ℕ × A)) → earlier o None ≡ o
earlier-none None = refl
earlier-none (Some a) = refl

-- ---- what is found at the first item

pub first_of-none : {X B : Type 0} (finds : X → Option B) (xs : List X) → first_of finds xs ≡ None → (x : X) → Has x xs → finds x ≡ None
first_of-none finds [] e x has = absurd has
first_of-none {X} {B} finds (y ∷ ys) e x has = by (λ later f. first_of-none finds ys f x later) (finds y) refl e has
  where
    by : (Has x ys → first_of finds ys ≡ None → finds x ≡ None) → (o : Option B) → finds y ≡ o → option_or o (first_of finds ys) ≡ None → Has x (y ∷ ys) → finds x ≡ None
    by rest (Some b) is e has = absurd (cc e)
    by rest None is e (inl same) = subst (λ (z : X). finds z ≡ None) same is
    by rest None is e (inr later) = rest later e

-- the item at which something is found first, in the order of the list
pub record IsFirstIn {X B : Type 0} (cmp : X → X → Ordering) (finds : X → Option B) (xs : List X) (found : B) : Type 0 where
  pub item : X
  pub there : finds item ≡ Some found
  pub least : (x : X) → Has x xs → cmp x item ≡ Less → finds x ≡ None

module _ {X B : Type 0} (cmp : X → X → Ordering) (total : IsTotalOrder cmp) (finds : X → Option B) where
  never_itself : (x : X) → cmp x x ≡ Less → ⊥
  never_itself x less = absurd (cc (total.antisymm x x, less))

  above_all : (x : X) (ys : List X) → AllByRecursion (λ y. cmp x y ≡ Less) ys → (y : X) → Has y ys → cmp x y ≡ Less
  above_all x [] all y has = absurd has
  above_all x (z ∷ zs) all y (inl same) = subst (λ (w : X). cmp x w ≡ Less) same all.0
  above_all x (z ∷ zs) all y (inr later) = above_all x zs all.1 y later

  pub first_of-some : (xs : List X) → IsStrictlySortedBy cmp xs → (found : B) → first_of finds xs ≡ Some found → IsFirstIn cmp finds xs found
  first_of-some [] s found e = absurd (cc e)
  first_of-some (y ∷ ys) s found e = by (first_of-some ys (sorted_tail cmp y ys s) found) (finds y) refl e
    where
      none_before : (x : X) → Has x (y ∷ ys) → cmp x y ≡ Less → finds x ≡ None
      none_before x (inl same) less = absurd (never_itself x (subst (λ (z : X). cmp x z ≡ Less) same less))
      none_before x (inr later) less =
          let up = above_all y ys (sorted_head cmp y ys s) x later in
          absurd (never_itself x (total.trans x y x less up))

      by : (first_of finds ys ≡ Some found → IsFirstIn cmp finds ys found) → (o : Option B) → finds y ≡ o → option_or o (first_of finds ys) ≡ Some found → IsFirstIn cmp finds (y ∷ ys) found
      by more (Some b) is f = record { item = y; there = is ∙ f; least = none_before }
      by more None is f =
          let rest = more f in
          record {
            item = rest.item;
            there = rest.there;
            least = λ x has less. elim has [
              | inl same ↦ subst (λ (z : X). finds z ≡ None) same is
              | inr later ↦ rest.least x later less
            ];
          }
