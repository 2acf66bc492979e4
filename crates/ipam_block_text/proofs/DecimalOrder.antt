-- Decimals stand by their first digits: of two with as many digits the lower number comes first.
use Rattle.std.proofs.Common.{◌≡◌, ◌∙◌, ℕ, ◌+◌, ◌/◌, ◌%◌, ◌^◌, ◌<◌, ◌≤◌, Bool, true, false, not, List, [], ◌∷◌, ◌++◌, length, take, Less, Equal, Greater, Ordering, nat_cmp, decimal, inl, inr, refl, sym, ap, arith, length-append}
use Rattle.std.specs.Ordering.{is_lt, ordering_reverse, ordering_then, MatchOrdering}
use Rattle.std.specs.Cmp.{nat_cmp_is, ranks}
use Rattle.std.specs.Cmp.Lexicographic.{slice_cmp}
use Rattle.std.specs.Prelude.{cond, nat_lt, nat_le, ◌==◌}
use Rattle.std.proofs.lemmas.Bool.{cases_lt, lt-ltb, le-ltb, lt-leb, le-leb}
use Rattle.std.proofs.lemmas.List.{length-take-le}
use Rattle.std.proofs.lemmas.Cmp.{nat_cmp_total}
use Rattle.std.proofs.lemmas.Fmt.{decimal_digit, decimal_step, decimal_by_steps, decimal_nonempty}
use Rattle.itoa.proofs.Decimal.{length_one, length_two, length_pair, length_four, length_step_wide}

-- ---- a list against a longer one

pub no_longer : (xs ys : List ℕ) → length ys ≤ length xs → is_lt (slice_cmp nat_cmp xs ys) ≡ is_lt (slice_cmp nat_cmp (take (length ys) xs) ys)
no_longer [] [] h = refl
no_longer (x ∷ xs) [] h = refl
no_longer [] (y ∷ ys) h = absurd (omega arith)
no_longer (x ∷ xs) (y ∷ ys) h = at (nat_cmp x y) (no_longer xs ys (omega arith))
  where
    at : (o : Ordering) → is_lt (slice_cmp nat_cmp xs ys) ≡ is_lt (slice_cmp nat_cmp (take (length ys) xs) ys)
        → is_lt (ordering_then o (slice_cmp nat_cmp xs ys)) ≡ is_lt (ordering_then o (slice_cmp nat_cmp (take (length ys) xs) ys))
    at Less rest = refl
    at Equal rest = rest
    at Greater rest = refl

pub shorter : (xs ys : List ℕ) → length xs < length ys → is_lt (slice_cmp nat_cmp xs ys) ≡ not (is_lt (slice_cmp nat_cmp (take (length xs) ys) xs))
shorter [] [] h = absurd (omega arith)
shorter [] (y ∷ ys) h = refl
shorter (x ∷ xs) [] h = absurd (omega arith)
shorter (x ∷ xs) (y ∷ ys) h =
    at (nat_cmp x y) (shorter xs ys (omega arith))
    ∙ ap (λ o. not (is_lt (ordering_then o (slice_cmp nat_cmp (take (length xs) ys) xs)))) (sym (nat_cmp_total.antisymm y x))
  where
    at : (o : Ordering) → is_lt (slice_cmp nat_cmp xs ys) ≡ not (is_lt (slice_cmp nat_cmp (take (length xs) ys) xs))
        → is_lt (ordering_then o (slice_cmp nat_cmp xs ys)) ≡ not (is_lt (ordering_then (ordering_reverse o) (slice_cmp nat_cmp (take (length xs) ys) xs)))
    at Less rest = refl
    at Equal rest = rest
    at Greater rest = refl

-- ---- as many digits

last_then : (xs ys : List ℕ) (x y : ℕ) → length xs ≡ length ys → slice_cmp nat_cmp (xs ++ x ∷ []) (ys ++ y ∷ []) ≡ ordering_then (slice_cmp nat_cmp xs ys) (nat_cmp x y)
last_then [] [] x y h = at (nat_cmp x y)
  where
    at : (o : Ordering) → ordering_then o Equal ≡ o
    at Less = refl
    at Equal = refl
    at Greater = refl
last_then [] (z ∷ ys) x y h = absurd (omega arith)
last_then (z ∷ xs) [] x y h = absurd (omega arith)
last_then (w ∷ xs) (z ∷ ys) x y h = ap (ordering_then (nat_cmp w z)) (last_then xs ys x y (omega arith)) ∙ at (nat_cmp w z)
  where
    at : (o : Ordering) → ordering_then o (ordering_then (slice_cmp nat_cmp xs ys) (nat_cmp x y)) ≡ ordering_then (ordering_then o (slice_cmp nat_cmp xs ys)) (nat_cmp x y)
    at Less = refl
    at Equal = refl
    at Greater = refl

digits_then : (n b : ℕ) → ordering_then (nat_cmp (n / 10) (b / 10)) (nat_cmp (48 + n % 10) (48 + b % 10)) ≡ nat_cmp n b
digits_then n b =
    nat_cmp_is n b (ordering_then (nat_cmp (n / 10) (b / 10)) (nat_cmp (48 + n % 10) (48 + b % 10)))
    (at (nat_cmp (n / 10) (b / 10)) (nat_cmp (48 + n % 10) (48 + b % 10)) (ranks (n / 10) (b / 10)) (ranks (48 + n % 10) (48 + b % 10)))
  where
    at : (front last : Ordering) → MatchOrdering front (n / 10 < b / 10) (n / 10 ≡ b / 10) (b / 10 < n / 10) → MatchOrdering last (48 + n % 10 < 48 + b % 10) (48 + n % 10 ≡ 48 + b % 10) (48 + b % 10 < 48 + n % 10)
        → MatchOrdering (ordering_then front last) (n < b) (n ≡ b) (b < n)
    at Less last h k = omega arith
    at Greater last h k = omega arith
    at Equal Less h k = omega arith
    at Equal Equal h k = omega arith
    at Equal Greater h k = omega arith

first_digit : (n b : ℕ) → nat_cmp (48 + n) (48 + b) ≡ nat_cmp n b
first_digit n b = nat_cmp_is n b (nat_cmp (48 + n) (48 + b)) (at (nat_cmp (48 + n) (48 + b)) (ranks (48 + n) (48 + b)))
  where
    at : (o : Ordering) → MatchOrdering o (48 + n < 48 + b) (48 + n ≡ 48 + b) (48 + b < 48 + n) → MatchOrdering o (n < b) (n ≡ b) (b < n)
    at Less h = omega arith
    at Equal h = omega arith
    at Greater h = omega arith

-- what is known of the digits of n
record Compared (n : ℕ) (ds : List ℕ) : Type 0 where
  some : 1 ≤ length ds
  like : (b : ℕ) → b < 2 ^ 64 → length ds ≡ length (decimal b) → slice_cmp nat_cmp ds (decimal b) ≡ nat_cmp n b

compared : (n : ℕ) → n < 2 ^ 64 → Compared n (decimal n)
compared = decimal_by_steps Compared one more
  where
    one : (n : ℕ) → n < 10 → Compared n ((48 + n) ∷ [])
    one n small = record {
      some = omega arith;
      like = λ b fits same. elim (cases_lt b 10) [
        | inl low ↦ ap (slice_cmp nat_cmp ((48 + n) ∷ [])) (decimal_digit b low) ∙ last_then [] [] (48 + n) (48 + b) refl ∙ first_digit n b
        | inr high ↦ let long = length_step_wide b high (omega arith) in let rest = decimal_nonempty (b / 10) (omega arith) in absurd (omega arith)
      ];
    }

    more : (n : ℕ) (ds : List ℕ) → 10 ≤ n → Compared (n / 10) ds → Compared n (ds ++ (48 + n % 10) ∷ [])
    more n ds large before = record {
      some = omega (arith, length-append ds ((48 + n % 10) ∷ []));
      like = λ b fits same. elim (cases_lt b 10) [
        | inl low ↦ let long = length_one b low in let some = before.some in absurd (omega (arith, length-append ds ((48 + n % 10) ∷ [])))
        | inr high ↦
            let step = decimal_step b high fits in
            let long = length_step_wide b high (omega arith) in
            let front : length ds ≡ length (decimal (b / 10)) = omega (arith, length-append ds ((48 + n % 10) ∷ [])) in
            ap (slice_cmp nat_cmp (ds ++ (48 + n % 10) ∷ [])) step
            ∙ last_then ds (decimal (b / 10)) (48 + n % 10) (48 + b % 10) front
            ∙ ap (λ o. ordering_then o (nat_cmp (48 + n % 10) (48 + b % 10))) (before.like (b / 10) (omega arith) front)
            ∙ digits_then n b
      ];
    }

pub same_digits : (n b : ℕ) → n < 2 ^ 64 → b < 2 ^ 64 → length (decimal n) ≡ length (decimal b) → slice_cmp nat_cmp (decimal n) (decimal b) ≡ nat_cmp n b
same_digits n b small fits same = (compared n small).like b fits same

-- ---- how many digits

pub digits_1 : (n : ℕ) → n < 10 → length (decimal n) ≡ 1
digits_1 n high = length_one n high

pub digits_2 : (n : ℕ) → 10 ≤ n → n < 100 → length (decimal n) ≡ 2
digits_2 n low high = length_two n low high

pub digits_3 : (n : ℕ) → 100 ≤ n → n < 1000 → length (decimal n) ≡ 3
digits_3 n low high = omega (arith, length_pair n low (omega arith), length_one (n / 100) (omega arith))

pub digits_4 : (n : ℕ) → 1000 ≤ n → n < 10000 → length (decimal n) ≡ 4
digits_4 n low high = omega (arith, length_pair n (omega arith) (omega arith), length_two (n / 100) (omega arith) (omega arith))

pub digits_5 : (n : ℕ) → 10000 ≤ n → n < 100000 → length (decimal n) ≡ 5
digits_5 n low high = omega (arith, length_four n low (omega arith), length_one (n / 10000) (omega arith))

-- ---- the test

less_test : (a b : ℕ) → is_lt (nat_cmp a b) ≡ nat_lt a b
less_test a b = at (nat_lt a b) (a == b)
  where
    at : (less same : Bool) → is_lt (cond less Less (cond same Equal Greater)) ≡ less
    at true same = refl
    at false true = refl
    at false false = refl

not_less : (a b : ℕ) → not (is_lt (nat_cmp b a)) ≡ nat_le a b
not_less a b =
    ap not (less_test b a)
    ∙ elim (cases_lt b a) as (λ _. not (nat_lt b a) ≡ nat_le a b) [
      | inl h ↦ ap not (lt-ltb b a h) ∙ sym (lt-leb a b h)
      | inr h ↦ ap not (le-ltb b a h) ∙ sym (le-leb a b h)
    ]

-- against an ordinal of more digits, whose first digits are those of `front`
pub before_longer : (a b front : ℕ) → a < 2 ^ 64 → front < 2 ^ 64 → length (decimal a) < length (decimal b) → decimal front ≡ take (length (decimal a)) (decimal b)
    → nat_le a front ≡ is_lt (slice_cmp nat_cmp (decimal a) (decimal b))
before_longer a b front fits small less is =
    let same : length (decimal front) ≡ length (decimal a) = ap length is ∙ length-take-le (length (decimal a)) (decimal b) (omega arith) in
    sym
    (shorter (decimal a) (decimal b) less
    ∙ ap (λ digits. not (is_lt (slice_cmp nat_cmp digits (decimal a)))) (sym is)
    ∙ ap (λ o. not (is_lt o)) (same_digits front a small fits same)
    ∙ not_less a front)

-- against one of no more digits, where `front` has as many of the first one's
pub before_no_longer : (a b front : ℕ) → b < 2 ^ 64 → front < 2 ^ 64 → length (decimal b) ≤ length (decimal a) → decimal front ≡ take (length (decimal b)) (decimal a)
    → nat_lt front b ≡ is_lt (slice_cmp nat_cmp (decimal a) (decimal b))
before_no_longer a b front fits small more is =
    let same : length (decimal front) ≡ length (decimal b) = ap length is ∙ length-take-le (length (decimal b)) (decimal a) more in
    sym
    (no_longer (decimal a) (decimal b) more
    ∙ ap (λ digits. is_lt (slice_cmp nat_cmp digits (decimal b))) (sym is)
    ∙ ap is_lt (same_digits front b small fits same)
    ∙ less_test front b)
