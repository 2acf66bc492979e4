-- What becomes of connections: a count of each step, and how the counts of two ends agree.
use Rattle.std.specs.Prelude.{◌≡◌, ◌⊎◌, ℕ, zero, suc, ◌+◌}
use Rattle.ipam_io.specs.Counts.{next_count}

-- the count after so many more of what it counts
abbrev pub raised : ℕ → ℕ → ℕ
raised zero count = count
raised (suc more) count = next_count (raised more count)

-- each connection that was taken was served
pub record IsEachServed (t t' a a' : ℕ) : Type 0 where
  pub count : ℕ
  pub taken : t' ≡ raised count t
  pub attended : a' ≡ raised count a

-- each connection that was taken from those that were left was kept
pub record IsEachKept (t t' k k' : ℕ) : Type 0 where
  pub count : ℕ
  pub taken : t' ≡ raised count t
  pub kept : k' ≡ raised count k

-- a connection was handed over, or served by who accepted it
abbrev pub IsOneHandedOver : (handed handed' attended attended' : ℕ) → Type 0
IsOneHandedOver handed handed' attended attended' =
    ((handed' ≡ next_count handed) × (attended' ≡ attended)) ⊎ ((handed' ≡ handed) × (attended' ≡ next_count attended))

-- each connection that was accepted was handed over, or served by who accepted it
pub record IsHandedOver (n n' h h' a a' : ℕ) : Type 0 where
  pub over : ℕ
  pub here : ℕ
  pub accepted : n' ≡ raised (over + here) n
  pub handed : h' ≡ raised over h
  pub attended : a' ≡ raised here a
