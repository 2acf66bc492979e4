-- A table with a mark for each number that was met.
use Rattle.std.proofs.Common.{◌≡◌, ℕ, zero, suc, ◌+◌, ◌<◌, ◌≤◌, Bool, true, false, List, [], ◌∷◌, ◌++◌, length, map, set, get_or, replicate, ap, sym, subst, ◌∙◌, arith, refl, inl, inr, eq-eqb, ne_eqb, length-set}
use Rattle.std.specs.Prelude.{◌==◌, ◌&&◌}
use Rattle.std.specs.List.{range_with_len, list_any, list_all}
use Rattle.std.proofs.lemmas.Bool.{cases_eq, or_left, or_right}
use Rattle.std.proofs.lemmas.List.{get_or-set_other}
use Rattle.std.proofs.lemmas.Grind.{get_or-set_at}
use Rattle.std.proofs.lemmas.List.FromFn.{length-map-range_with_len, get_or-map-range_with_len, fill_by_all}
use Rattle.ipam_block.specs.Sound.{ordinals_below}
use Rattle.ipam_block.specs.Test.{are_all_below}

-- whether the number is one of them
abbrev pub is_met : List ℕ → ℕ → Bool
is_met xs o = list_any (λ x. x == o) xs

none_met : (a n : ℕ) → replicate n false ≡ map (is_met []) (range_with_len a n)
none_met a zero = refl
none_met a (suc n) = ap (λ l. false ∷ l) (none_met (a + 1) n)

pub marked-none : (n : ℕ) (ms : List Bool) → ms ≡ replicate n false → ms ≡ map (is_met []) (ordinals_below n)
marked-none n ms e = e ∙ none_met 0 n

met_now : (xs : List ℕ) (x : ℕ) → is_met (xs ++ x ∷ []) x ≡ true
met_now [] x = or_left (x == x) false (eq-eqb x x refl)
met_now (y ∷ xs) x = or_right (y == x) _ (met_now xs x)

met_before : (xs : List ℕ) (x o : ℕ) → (x ≡ o → ⊥) → is_met (xs ++ x ∷ []) o ≡ is_met xs o
met_before [] x o other = rw (ne_eqb x o other)
met_before (y ∷ xs) x o other = rw (met_before xs x o other)

cons_both : (b c : Bool) (bs cs : List Bool) → b ≡ c → bs ≡ cs → (b ∷ bs) ≡ (c ∷ cs)
cons_both b c bs cs e f = cc

pub marked-push : (n x : ℕ) (xs more : List ℕ) (ms old : List Bool) → more ≡ xs ++ x ∷ [] → old ≡ map (is_met xs) (ordinals_below n) → x < n → ms ≡ set old x true → ms ≡ map (is_met more) (ordinals_below n)
marked-push n x xs more ms old step was below is =
    let long = length-map-range_with_len (is_met xs) 0 n in
    let old_long = ap length was in
    let set_long = length-set old x true in
    let new_long = ap length is in
    fill_by_all (is_met more) ms n false (omega arith) (λ k within.
    let P : List Bool → Type 0 = λ l. get_or l k false ≡ is_met more k in
    let Q : List ℕ → Type 0 = λ l. get_or (set old x true) k false ≡ is_met l k in
    subst P (sym is) (subst Q (sym step) (at k within)))
  where
    at : (k : ℕ) → k < n → get_or (set old x true) k false ≡ is_met (xs ++ x ∷ []) k
    at k within =
        let long = length-map-range_with_len (is_met xs) 0 n in
        let old_long = ap length was in
        elim (cases_eq k x) [
          | inl same ↦
              let here = get_or-set_at old x k true false same (omega arith) in
              let R : ℕ → Type 0 = λ j. true ≡ is_met (xs ++ x ∷ []) j in
              here ∙ subst R (sym same) (sym (met_now xs x))
          | inr other ↦
              let here = get_or-set_other old x k true false other in
              let before = get_or-map-range_with_len (is_met xs) 0 n k k false within (omega arith) in
              here ∙ ap (λ l. get_or l k false) was ∙ before ∙ sym (met_before xs x k (λ e. other (sym e)))
        ]

pub marked-pass : (n x : ℕ) (xs more : List ℕ) (ms : List Bool) → more ≡ xs ++ x ∷ [] → ms ≡ map (is_met xs) (ordinals_below n) → n ≤ x → ms ≡ map (is_met more) (ordinals_below n)
marked-pass n x xs more ms step was past =
    let P : List ℕ → Type 0 = λ l. ms ≡ map (is_met l) (ordinals_below n) in
    subst P (sym step) (was ∙ same 0 n (λ o below. omega arith))
  where
    same : (a m : ℕ) → ((o : ℕ) → o < a + m → o < x) → map (is_met xs) (range_with_len a m) ≡ map (is_met (xs ++ x ∷ [])) (range_with_len a m)
    same a zero h = refl
    same a (suc m) h =
        let here = met_before xs x a (λ e. let below = h a (omega arith) in omega arith) in
        let rest = same (a + 1) m (λ o below. h o (omega arith)) in
        cons_both _ _ _ _ (sym here) rest

all_marked : (f : ℕ → Bool) (os : List ℕ) → list_all (λ mark. mark) (map f os) ≡ list_all f os
all_marked f [] = refl
all_marked f (o ∷ os) = ap (λ b. f o && b) (all_marked f os)

pub marks_tell : (n : ℕ) (xs : List ℕ) (ms : List Bool) (r : Bool) → length xs ≡ n → ms ≡ map (is_met xs) (ordinals_below n) → r ≡ list_all (λ mark. mark) ms → r ≡ are_all_below n xs
marks_tell n xs ms r long is told = told ∙ ap (list_all (λ mark. mark)) is ∙ all_marked (is_met xs) (ordinals_below n) ∙ rw (eq-eqb _ _ long) refl
