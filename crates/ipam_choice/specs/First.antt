-- What comes first.
use Rattle.std.specs.Prelude.{◌≡◌, ◌⊎◌, ℕ, nat_le, List, [], ◌∷◌, Option, Some, None, if◌then◌else◌}
use Rattle.std.specs.Option.{option_or}

-- what is found at the first item at which something is
abbrev pub first_of : {A B : Type 0} → (A → Option B) → List A → Option B
first_of finds [] = None
first_of finds (x ∷ xs) = option_or (finds x) (first_of finds xs)

-- of what is found at two numbers, that at the lower one
abbrev pub earlier : {A : Type 0} → Option (ℕ × A) → Option (ℕ × A) → Option (ℕ × A)
earlier None other = other
earlier (Some found) None = Some found
earlier (Some found) (Some other) = if nat_le found.0 other.0 then Some found else Some other

-- without the number
abbrev pub found_there : {A : Type 0} → Option (ℕ × A) → Option A
found_there None = None
found_there (Some found) = Some found.1

-- the item is one of the list's
abbrev pub Has : {X : Type 0} → X → List X → Type 0
Has x [] = ⊥
Has x (y ∷ ys) = (y ≡ x) ⊎ Has x ys
