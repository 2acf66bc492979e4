-- A path is followed name by name, and a number in decimal is an index.
use Rattle.std.proofs.Common.{◌≡◌, ℕ, zero, suc, ◌^◌, ◌<◌, ◌==◌, ◌&&◌, List, [], ◌∷◌, ◌++◌, length, get_or, Bool, true, false, Option, Some, None, option_and_then, decimal, refl, sym, ap, ◌∙◌, arith, length-append, lt-ltb, ne_eqb}
use Rattle.std.proofs.lemmas.Bool.{or_parts, eqb-false}
use Rattle.std.proofs.lemmas.Fmt.{decimal_is_IsNumeral, decimal_digit, first_decimal}
use Rattle.std.specs.Char.{is_ascii_digit}
use Rattle.std.specs.List.{list_all}
use Rattle.serde_json.specs.Data.{Data}
use Rattle.ipam_json.specs.Path.{step, follow, names_of, at_path, has_leading_zero, index_of, has_dot}
use Rattle.ipam_json.proofs.PathLemmas.{Lacks, follow_first, follow_last, at_path_names, digit_tests, digit_texts}

lacks_dot : (xs : List ℕ) → has_dot xs ≡ false → Lacks xs
lacks_dot [] h i less e = omega arith
lacks_dot (x ∷ xs) h zero less e = eqb-false x 46 (or_parts (x == 46) (has_dot xs) h).0 e
lacks_dot (x ∷ xs) h (suc i) less e = lacks_dot xs (or_parts (x == 46) (has_dot xs) h).1 i (omega arith) e

pub at_path-name : (name : List ℕ) (d : Data) → 0 < length name → has_dot name ≡ false → at_path name d ≡ step name d
at_path-name name d some h = at_path_names name d some ∙ follow_last name d (lacks_dot name h)

then_rest : (rest : List ℕ) (o : Option Data) → 0 < length rest → option_and_then (follow (names_of rest)) o ≡ option_and_then (at_path rest) o
then_rest rest None some = refl
then_rest rest (Some d) some = sym (at_path_names rest d some)

pub at_path-first : (name rest : List ℕ) (d : Data) → has_dot name ≡ false → 0 < length rest → at_path (name ++ 46 ∷ rest) d ≡ option_and_then (at_path rest) (step name d)
at_path-first name rest d h some =
    at_path_names (name ++ 46 ∷ rest) d (omega (arith, length-append name (46 ∷ rest)))
    ∙ follow_first name rest d (lacks_dot name h) ∙ then_rest rest (step name d) some

-- ---- a number in decimal

decimal_digits : (n : ℕ) → n < 2 ^ 64 → list_all is_ascii_digit (decimal n) ≡ true
decimal_digits n h = digit_texts.from (decimal n) (decimal_is_IsNumeral n h).0.1

has_dot-digits : (xs : List ℕ) → list_all is_ascii_digit xs ≡ true → has_dot xs ≡ false
has_dot-digits [] h = refl
has_dot-digits (x ∷ xs) h = let k = digit_tests.parts x xs h in let digit = k.0 in rw (ne_eqb x 46 (λ e. omega (arith, digit.0))) (has_dot-digits xs k.1)

pub has_dot-decimal : (n : ℕ) → n < 2 ^ 64 → has_dot (decimal n) ≡ false
has_dot-decimal n h = has_dot-digits (decimal n) (decimal_digits n h)

neither : (b : Bool) → (b && false) ≡ false
neither true = refl
neither false = refl

no_leading_zero : (ds : List ℕ) → 48 < get_or ds 0 0 → has_leading_zero ds ≡ false
no_leading_zero ds h = rw (ne_eqb (get_or ds 0 0) 48 (λ e. omega arith)) (neither _)

pub index_of-decimal : (n : ℕ) → n < 2 ^ 64 → index_of (decimal n) ≡ Some n
index_of-decimal zero h = ap index_of (decimal_digit 0 (omega arith))
index_of-decimal (suc n) h =
    let numeral = decimal_is_IsNumeral (suc n) h in
    rw (lt-ltb 0 (length (decimal (suc n))) numeral.0.0, no_leading_zero (decimal (suc n)) (first_decimal (suc n) (omega arith) h), decimal_digits (suc n) h) (ap Some numeral.1)
