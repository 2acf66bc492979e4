-- How the code finds the index of attributes.
use Rattle.std.specs.Prelude.{◌≡◌, ℕ, ◌==◌, List, map, Option, Some, position}
use Rattle.std.specs.Borrow.{Bor}
use Rattle.std.specs.HashMap.{HashMap, get}
use Rattle.std.specs.Map.{lookup}
use Rattle.ipam_block.specs.declared.allocation.Allocation.{Allocation}
use Rattle.ipam_block.specs.declared.allocation.Attributes.{Attributes}
use Rattle.ipam_block_text.specs.Attributes.{are_same}

-- the attributes that are borrowed
abbrev pub borrowed : List (Bor Attributes) → List Attributes
borrowed found = map (λ a. a.now) found

-- the map has the index of all attributes that are there, and of no others
abbrev pub IsNumbering : {S : Type 0} → HashMap Attributes ℕ S → List Attributes → Type 0
IsNumbering numbers found = (q : Attributes) → get are_same numbers q ≡ position (are_same q) found

abbrev pub placed : ℕ × ℕ → ℕ × Option ℕ
placed p = (p.0, Some p.1)

-- an allocation's ordinal, and the index of its attributes
abbrev pub numbered_in : List Attributes → Allocation → ℕ × Option ℕ
numbered_in found a = (a.ordinal, position (are_same a.attributes) found)

-- the index of an ordinal, where it is held
abbrev pub index_at : List (ℕ × ℕ) → ℕ → Option ℕ
index_at held o = lookup (λ k. k == o) held
