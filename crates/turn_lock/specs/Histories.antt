-- Histories as lists, the newest entry first, and whose their entries are.
use Rattle.std.specs.Prelude.{◌≡◌, ◌≢◌, ℕ, List, [], ◌∷◌, ◌++◌}

module _ {E : Type 0} (by : E → ℕ) where
  -- none of the entries is of the pass n
  abbrev pub NoneBy : ℕ → List E → Type 0
  NoneBy n [] = Unit {0}
  NoneBy n (e ∷ es) = (by e ≢ n) × NoneBy n es

  -- there is no entry, or one, which is of the pass n
  abbrev pub AtMostOneBy : ℕ → List E → Type 0
  AtMostOneBy n [] = Unit {0}
  AtMostOneBy n (e ∷ []) = by e ≡ n
  AtMostOneBy n (e ∷ f ∷ es) = ⊥

  -- the later history is the earlier one with more entries, none of them of the pass n
  abbrev pub GrewPast : ℕ → List E → List E → Type 0
  GrewPast n earlier later = (gained : List E) × (later ≡ gained ++ earlier) × NoneBy n gained

-- the later history is the earlier one, with more entries or with none
abbrev pub Grew : {E : Type 0} → List E → List E → Type 0
Grew {E} earlier later = (gained : List E) × (later ≡ gained ++ earlier)
