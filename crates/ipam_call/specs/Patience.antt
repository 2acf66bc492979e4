-- How long a client tries to connect.
use Rattle.std.specs.Prelude.{ℕ, ◌+◌, ◌-◌, ◌*◌, List, [], ◌∷◌, nat_le, ◌&&◌, Option, Some, None, option_and_then, option_map, if◌then◌else◌}

abbrev pub digit_of : ℕ → Option ℕ
digit_of byte = if nat_le 48 byte && nat_le byte 57 then Some (byte - 48) else None

abbrev pub two_digits : (tens ones : ℕ) → Option ℕ
two_digits tens ones = option_and_then (λ t. option_map (λ o. t * 10 + o) (digit_of ones)) (digit_of tens)

-- the number that one or two digits are
abbrev pub number_of : List ℕ → Option ℕ
number_of [] = None
number_of (ones ∷ []) = digit_of ones
number_of (tens ∷ ones ∷ []) = two_digits tens ones
number_of (a ∷ b ∷ c ∷ rest) = None

abbrev pub within_most : Option ℕ → ℕ
within_most None = 10
within_most (Some seconds) = if nat_le seconds 30 then seconds else 10

-- as many seconds as the value says, where these are at most 30, and else 10
abbrev pub seconds_of : Option (List ℕ) → ℕ
seconds_of value = within_most (option_and_then number_of value)
