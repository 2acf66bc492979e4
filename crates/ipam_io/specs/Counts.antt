-- Counts of calls and faults: a count is a 64-bit number that stays at its top once it is there.
use Rattle.std.specs.Prelude.{◌≡◌, ℕ, ◌+◌, ◌-◌, ◌^◌, ◌<◌, ◌≤◌, ◌⊎◌, min, nat_eq, Bool, List}
use Rattle.std.specs.List.{list_any}

-- the count after one more of what it counts
abbrev pub next_count : ℕ → ℕ
next_count count = min (count + 1) (2 ^ 64 - 1)

-- the count is higher than before, or stands at the top
abbrev pub Rose : ℕ → ℕ → Type 0
Rose before after = next_count before ≤ after

-- `Rose` in the words of its meaning, for a count that never falls and fits 64 bits
abbrev pub IsHigherOrAtTop : ℕ → ℕ → Type 0
IsHigherOrAtTop before after = (before < after) ⊎ (after ≡ 2 ^ 64 - 1)

-- whether the call after this many is one of the listed ones, where the first call is 1
abbrev pub is_next_listed : List ℕ → ℕ → Bool
is_next_listed listed calls = list_any (λ number. nat_eq number (next_count calls)) listed
