-- The text that comes first by its bytes.
use Rattle.std.specs.Prelude.{ℕ, List, Option, Some, None, if◌then◌else◌}
use Rattle.std.specs.Cmp.Lexicographic.{slice_cmp}
use Rattle.std.specs.Ordering.{nat_cmp, is_lt}

abbrev pub earlier_of : List ℕ → List ℕ → List ℕ
earlier_of one other = if is_lt (slice_cmp nat_cmp other one) then other else one

-- of the texts that there are
abbrev pub earlier : Option (List ℕ) → Option (List ℕ) → Option (List ℕ)
earlier (Some one) (Some other) = Some (earlier_of one other)
earlier (Some one) None = Some one
earlier None other = other
