-- The changes that are kept.
use Rattle.std.proofs.Common.{◌≡◌, ℕ, suc, ◌<◌, ◌-◌, Bool, true, false, cond, Option, Some, List, [], ◌∷◌, ◌++◌, length, get_or, ap, sym, ◌∙◌, arith, append_assoc, append-nil}
use Rattle.std.proofs.lemmas.List.Sums.{take_while-cons}
use Rattle.std.specs.List.{slice_get, take_while}
use Rattle.std.proofs.lemmas.Option.{slice_get-get_or}

pub last_popped : {X : Type 0} (xs : List X) (i n : ℕ) → length xs ≡ suc i → n ≡ suc i → (r : Option X) → ((d : X) → 0 < n → r ≡ Some (get_or xs (n - 1) d)) → r ≡ slice_get xs i
last_popped [] i n long is r value = absurd (omega arith)
last_popped (x ∷ xs) i n long is r value =
    let at : n - 1 ≡ i = omega arith in
    value x (omega arith) ∙ (ap (λ k. Some (get_or (x ∷ xs) k x)) at ∙ sym (slice_get-get_or (x ∷ xs) i x (omega arith)))

pub taken_one_more : {X : Type 0} (passes : X → Bool) (c copy : X) (found more rest left all : List X) → found ++ take_while passes rest ≡ all → rest ≡ c ∷ left → passes c ≡ true → copy ≡ c → more ≡ found ++ copy ∷ [] → more ++ take_while passes left ≡ all
taken_one_more {X} passes c copy found more rest left all so_far front h same is =
    ap (λ xs. xs ++ take_while passes left) is
    ∙ (append_assoc {A = X} found (copy ∷ []) (take_while passes left)
    ∙ (ap (λ x. found ++ x ∷ take_while passes left) same
    ∙ (ap (λ b. found ++ cond b (c ∷ take_while passes left) []) (sym h)
    ∙ (ap (λ xs. found ++ xs) (sym (take_while-cons passes c left))
    ∙ (ap (λ xs. found ++ take_while passes xs) (sym front) ∙ so_far)))))

pub taken_all : {X : Type 0} (passes : X → Bool) (c : X) (found rest left all : List X) → found ++ take_while passes rest ≡ all → rest ≡ c ∷ left → passes c ≡ false → found ≡ all
taken_all {X} passes c found rest left all so_far front h =
    let none : take_while passes rest ≡ [] = ap (take_while passes) front ∙ (take_while-cons passes c left ∙ ap (λ b. cond b (c ∷ take_while passes left) []) h) in
    sym (append-nil found) ∙ (ap (λ xs. found ++ xs) (sym none) ∙ so_far)
