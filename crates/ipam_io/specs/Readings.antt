-- The readings that a clock is still to give, as a function of how many come before each.
use Rattle.std.specs.Prelude.{ℕ, ◌-◌, zero, suc, List, [], ◌∷◌, Option, length, slice_index, slice_index_or}
use Rattle.std.specs.Option.{option_map}

-- this reading, and then those that follow
abbrev pub prepend_reading : ℕ → (ℕ → ℕ) → ℕ → ℕ
prepend_reading reading ahead zero = reading
prepend_reading reading ahead (suc k) = ahead k

-- the readings of the list in order, and then those that follow
abbrev pub prepend_readings : List ℕ → (ℕ → ℕ) → ℕ → ℕ
prepend_readings [] ahead = ahead
prepend_readings (reading ∷ readings) ahead = prepend_reading reading (prepend_readings readings ahead)

-- the readings of the list, and then those that follow, where these are known
abbrev pub prepend_known_readings : List ℕ → Option (ℕ → ℕ) → Option (ℕ → ℕ)
prepend_known_readings readings ahead = option_map (prepend_readings readings) ahead

-- the readings of the list in order, and then this one for ever
abbrev pub readings_then : List ℕ → ℕ → ℕ → ℕ
readings_then readings last k = slice_index_or readings k last

-- the last reading of the list, or 0 where there is none
abbrev pub last_reading : List ℕ → ℕ
last_reading readings = slice_index readings (length readings - 1)
