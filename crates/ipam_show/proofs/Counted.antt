-- Counts are small.
use Rattle.std.proofs.Common.{◌≡◌, ℕ, zero, suc, ◌≤◌, Bool, List, [], ◌∷◌, Option, Some, None, length, take, arith}
use Rattle.std.specs.List.{count_by, filter_map, cons_option}
use Rattle.std.proofs.lemmas.List.Sums.{count_by-le-length}

take-le : {X : Type 0} (i : ℕ) (xs : List X) → length (take i xs) ≤ i
take-le zero xs = omega arith
take-le (suc i) [] = omega arith
take-le (suc i) (x ∷ xs) = omega (arith, take-le i xs)

-- no more pass than there are
pub count_few : {X : Type 0} (p : X → Bool) (xs : List X) (i n : ℕ) → n ≡ count_by p (take i xs) → n ≤ i
count_few p xs i n e =
    let few = count_by-le-length p (take i xs) in
    let part = take-le i xs in
    omega arith

-- there are no more than what they are found in
pub found_few : {X Y : Type 0} (f : X → Option Y) (xs : List X) → length (filter_map f xs) ≤ length xs
found_few f [] = omega arith
found_few {X} {Y} f (x ∷ xs) = by (f x) (found_few f xs)
  where
    by : (o : Option Y) → length (filter_map f xs) ≤ length xs → length (cons_option o (filter_map f xs)) ≤ suc (length xs)
    by None few = omega arith
    by (Some y) few = omega arith
