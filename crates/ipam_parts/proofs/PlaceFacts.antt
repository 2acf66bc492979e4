-- The first of a list that passes a test, and its place.
use native.Mathlib.Omega.{arith}
use Rattle.std.proofs.Common.{◌≡◌, ◌<◌, ◌≤◌, cond, refl, ap, ◌∙◌, ℕ, zero, suc, Bool, List, [], ◌∷◌, length, get_or, Some, None, find, inl, inr}
use Rattle.std.specs.Prelude.{slice_get, position, nat_lt}
use Rattle.std.specs.List.{position_or_len}
use Rattle.std.proofs.lemmas.Bool.{cases_lt}
use Rattle.std.proofs.lemmas.List.Folds.{find_at}
use Rattle.std.proofs.lemmas.Option.{slice_get_past}

slice_get_at : {A : Type 0} (list : List A) (place : ℕ) (d : A) → place < length list → slice_get list place ≡ Some (get_or list place d)
slice_get_at [] place d within = absurd (omega arith)
slice_get_at (first ∷ rest) zero d within = refl
slice_get_at (first ∷ rest) (suc place) d within = slice_get_at rest place d (omega arith)

placed : {A : Type 0} (test : A → Bool) (list : List A) (place : ℕ)
    → cond (nat_lt (position_or_len test list) (length list)) (Some (position_or_len test list)) None ≡ Some place
    → (place < length list) × (position_or_len test list ≡ place)
placed test list place is = elim (cases_lt (position_or_len test list) (length list)) [
  | inl within ↦ (grind arith, grind arith)
  | inr over ↦ absurd (grind arith)
]

-- the first that passes is the one at its place
pub find_placed : {A : Type 0} (test : A → Bool) (list : List A) (place : ℕ) (d : A) → position test list ≡ Some place
    → find test list ≡ Some (get_or list place d)
find_placed test list place d is =
    let at = placed test list place is in
    find_at test list ∙ ap (slice_get list) at.1 ∙ slice_get_at list place d at.0

past : {A : Type 0} (test : A → Bool) (list : List A)
    → cond (nat_lt (position_or_len test list) (length list)) (Some (position_or_len test list)) None ≡ None
    → length list ≤ position_or_len test list
past test list none = elim (cases_lt (position_or_len test list) (length list)) [
  | inl within ↦ absurd (grind arith)
  | inr over ↦ over
]

-- where none passes there is no place
pub find_nowhere : {A : Type 0} (test : A → Bool) (list : List A) → position test list ≡ None → find test list ≡ None
find_nowhere test list none =
    find_at test list ∙ slice_get_past list (position_or_len test list) (past test list none)
