-- How readings that a clock gave join up, and which they are.
use Rattle.std.proofs.Common.{◌≡◌, ℕ, List, [], ◌∷◌, ◌++◌, None, Some, Option, refl, ap}
use Rattle.ipam_io.specs.Readings.{prepend_reading, prepend_readings, prepend_known_readings}

-- some readings and then more are all of them in order
pub prepend_readings-append : (xs ys : List ℕ) (ahead : ℕ → ℕ) → prepend_readings (xs ++ ys) ahead ≡ prepend_readings xs (prepend_readings ys ahead)
prepend_readings-append [] ys ahead = refl
prepend_readings-append (x ∷ xs) ys ahead = ap (prepend_reading x) (prepend_readings-append xs ys ahead)

-- the same, where those that follow are known
pub prepend_known_readings-append : (xs ys : List ℕ) (ahead : Option (ℕ → ℕ)) → prepend_known_readings (xs ++ ys) ahead ≡ prepend_known_readings xs (prepend_known_readings ys ahead)
prepend_known_readings-append xs ys None = refl
prepend_known_readings-append xs ys (Some ahead) = ap Some (prepend_readings-append xs ys ahead)
