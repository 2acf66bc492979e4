-- How many members or values there are.
use Rattle.std.proofs.Common.{◌≡◌, ℕ, ◌≤◌, Bool, true, List, [], ◌∷◌, length, nat_lt, refl, arith, lt-ltb, le-leb}
use Rattle.ipam_select.specs.Formula.{formulas}
use Rattle.std.specs.Str.{is_utf8}
use Rattle.ipam_select.specs.Sound.{ascends, are_several, is_quotable, fits_quotes}
use Rattle.ipam_select.specs.declared.selector.Selector.{Selector}

pub several-by_length : (members : List Selector) (b : Bool) → b ≡ nat_lt 1 (length members) → b ≡ are_several (formulas members)
several-by_length [] b e = e
several-by_length (s ∷ []) b e = e
several-by_length (s ∷ t ∷ more) b e = rw (lt-ltb 1 (length (s ∷ t ∷ more)) (omega arith)) at e

pub ascends-few : (vs : List (List ℕ)) → length vs ≤ 1 → ascends vs ≡ true
ascends-few [] h = refl
ascends-few (v ∷ []) h = refl
ascends-few (v ∷ w ∷ vs) h = absurd (omega arith)

pub quotable-by : (v : List ℕ) → length v ≤ 253 → is_utf8 v ≡ true → is_quotable v ≡ fits_quotes v
quotable-by v h u = rw (le-leb (length v) 253 h, u) refl
