-- Sums over lists of views, how often a number is in a list, and what is true of each view after one was set.
use Rattle.std.proofs.Common.{◌≡◌, ◌≢◌, ℕ, zero, suc, ◌+◌, ◌<◌, ◌≤◌, eq-eqb, ne_eqb, List, [], ◌∷◌, ◌++◌, length, set, sym, refl, ap, ◌∙◌, subst, ⊎_elim, arith, cond}
use mathlib.Core.Logic.{dite}
use mathlib.Core.Option.{some, some-ne-none, some-injective}
use native.Mathlib.Decide.{ℕ_discrete, dec_le}
use lib.ListN.{get_elem?}
use Rattle.atomic_table.proofs.Lists.{at_set, at_snoc}
use Rattle.turn_lock.specs.Rule.{times, total}

pub hit : (k x : ℕ) (xs : List ℕ) → k ≡ x → times k (x ∷ xs) ≡ 1 + times k xs
hit k x xs e = ap (λ b. cond b 1 0 + times k xs) (eq-eqb k x e)

pub miss : (k x : ℕ) (xs : List ℕ) → k ≢ x → times k (x ∷ xs) ≡ times k xs
miss k x xs ne = ap (λ b. cond b 1 0 + times k xs) (ne_eqb k x ne) ∙ omega arith

pub times_append : (k : ℕ) (xs ys : List ℕ) → times k (xs ++ ys) ≡ times k xs + times k ys
times_append k [] ys = omega arith
times_append k (x ∷ xs) ys = let r = times_append k xs ys in omega arith

module _ {V : Type 0} (f : V → ℕ) where
  pub total_set : (vs : List V) (i : ℕ) (v w : V) → get_elem? vs i ≡ some v → total f (set vs i w) + f v ≡ total f vs + f w
  total_set [] i v w at = absurd (some-ne-none v (sym at))
  total_set (x ∷ xs) zero v w at = let e : f x ≡ f v = ap f (some-injective x v at) in omega arith
  total_set (x ∷ xs) (suc i) v w at = let r = total_set xs i v w at in omega arith

  pub total_snoc : (vs : List V) (w : V) → total f (vs ++ w ∷ []) ≡ total f vs + f w
  total_snoc [] w = omega arith
  total_snoc (x ∷ xs) w = let r = total_snoc xs w in omega arith

  pub total_one : (vs : List V) (i : ℕ) (v : V) → get_elem? vs i ≡ some v → f v ≤ total f vs
  total_one [] i v at = absurd (some-ne-none v (sym at))
  total_one (x ∷ xs) zero v at = let e : f x ≡ f v = ap f (some-injective x v at) in omega arith
  total_one (x ∷ xs) (suc i) v at = let r = total_one xs i v at in omega arith

  pub total_two : (vs : List V) (i j : ℕ) (v w : V) → i ≢ j → get_elem? vs i ≡ some v → get_elem? vs j ≡ some w → f v + f w ≤ total f vs
  total_two [] i j v w ne at there = absurd (some-ne-none v (sym at))
  total_two (x ∷ xs) zero zero v w ne at there = absurd (ne refl)
  total_two (x ∷ xs) zero (suc j) v w ne at there = let e : f x ≡ f v = ap f (some-injective x v at) in let r = total_one xs j w there in omega arith
  total_two (x ∷ xs) (suc i) zero v w ne at there = let e : f x ≡ f w = ap f (some-injective x w there) in let r = total_one xs i v at in omega arith
  total_two (x ∷ xs) (suc i) (suc j) v w ne at there = let r = total_two xs i j v w (λ e. ne (ap suc e)) at there in omega arith

  pub total_has : (vs : List V) → 0 < total f vs → (j : ℕ) × (v : V) × (get_elem? vs j ≡ some v) × (0 < f v)
  total_has [] h = absurd (omega arith)
  total_has (x ∷ xs) h = dite (dec_le 1 (f x)) (λ some_here. (zero, x, refl, (let g : 0 < f x = omega arith in g)))
      (λ none_here. let r = total_has xs (omega arith) in (suc r.0, r.1, r.2, r.3))

  -- the others together have at most what is left
  pub total_le : (g : V → ℕ) (vs : List V) → ((j : ℕ) (v : V) → get_elem? vs j ≡ some v → f v ≤ g v) → total f vs ≤ total g vs
  total_le g [] h = omega arith
  total_le g (x ∷ xs) h = let a = h zero x refl in let r = total_le g xs (λ j v at. h (suc j) v at) in omega arith

module _ {V : Type 0} where
  pub inside : (vs : List V) (i : ℕ) (v : V) → get_elem? vs i ≡ some v → i < length vs
  inside [] i v at = absurd (some-ne-none v (sym at))
  inside (x ∷ xs) zero v at = omega arith
  inside (x ∷ xs) (suc i) v at = let r = inside xs i v at in omega arith

  pub each_set : (P : ℕ → V → Type 0) (vs : List V) (i : ℕ) (w : V) → P i w → ((j : ℕ) (v : V) → j ≢ i → get_elem? vs j ≡ some v → P j v)
      → (j : ℕ) (v : V) → get_elem? (set vs i w) j ≡ some v → P j v
  each_set P vs i w here others j v at = ⊎_elim (λ (t : (j ≡ i) × (w ≡ v)). subst (λ (x : ℕ × V). P x.0 x.1) (λ c. (sym t.0 c, t.1 c)) here)
      (λ (t : (j ≢ i) × (get_elem? vs j ≡ some v)). others j v t.0 t.1) (at_set vs i j w v at)

  pub each_snoc : (P : ℕ → V → Type 0) (vs : List V) (w : V) → ((j : ℕ) → P j w) → ((j : ℕ) (v : V) → get_elem? vs j ≡ some v → P j v)
      → (j : ℕ) (v : V) → get_elem? (vs ++ w ∷ []) j ≡ some v → P j v
  each_snoc P vs w last others j v at = ⊎_elim (others j v) (λ (t : w ≡ v). subst (P j) t (last j)) (at_snoc vs w v j at)

-- a number n times, over the numbers below m
abbrev pub upto : ℕ → (ℕ → ℕ) → ℕ
upto zero f = 0
upto (suc m) f = f m + upto m f

upto_out : (m x : ℕ) (xs : List ℕ) → m ≤ x → upto m (λ k. times k (x ∷ xs)) ≡ upto m (λ k. times k xs)
upto_out zero x xs h = refl
upto_out (suc m) x xs h = let r = upto_out m x xs (omega arith) in let e = miss m x xs (λ e. omega arith) in omega arith

upto_in : (m x : ℕ) (xs : List ℕ) → x < m → upto m (λ k. times k (x ∷ xs)) ≡ 1 + upto m (λ k. times k xs)
upto_in zero x xs h = absurd (omega arith)
upto_in (suc m) x xs h = dite (ℕ_discrete m x) (λ e. let a = hit m x xs e in let r = upto_out m x xs (omega arith) in omega arith)
    (λ ne. let a = miss m x xs ne in let r = upto_in m x xs (omega arith) in omega arith)

upto_none : (m : ℕ) → upto m (λ k. times k []) ≡ 0
upto_none zero = refl
upto_none (suc m) = let r = upto_none m in omega arith

-- numbers below m, counted one by one
pub length_upto : (m : ℕ) (xs : List ℕ) → ((k : ℕ) → m ≤ k → times k xs ≡ 0) → length xs ≡ upto m (λ k. times k xs)
length_upto m [] h = sym (upto_none m)
length_upto m (x ∷ xs) h = let r = length_upto m xs (λ k l. let e = h k l in omega arith) in
    let low : x < m = dite (dec_le m x) (λ l. let e = h x l in let f = hit x x xs refl in absurd (omega arith)) (λ n. omega arith) in
    let e = upto_in m x xs low in omega arith

pub upto_le : (m : ℕ) (f : ℕ → ℕ) → ((k : ℕ) → k < m → f k ≤ 1) → upto m f ≤ m
upto_le zero f h = omega arith
upto_le (suc m) f h = let a = h m (omega arith) in let r = upto_le m f (λ k l. h k (omega arith)) in omega arith

pub upto_full : (m : ℕ) (f : ℕ → ℕ) → ((k : ℕ) → k < m → f k ≤ 1) → upto m f ≡ m → (k : ℕ) → k < m → 0 < f k
upto_full zero f h e k l = absurd (omega arith)
upto_full (suc m) f h e k l = let a = h m (omega arith) in let r = upto_le m f (λ j b. h j (omega arith)) in
    dite (ℕ_discrete k m) (λ same. let g : 0 < f m = omega arith in subst (λ j. 0 < f j) (sym same) g) (λ ne. upto_full m f (λ j b. h j (omega arith)) (omega arith) k (omega arith))
