-- A path, a name at a time.
use Rattle.std.proofs.Common.{◌≡◌, ◌≢◌, ℕ, suc, ◌^◌, ◌<◌, ◌≤◌, nat_le, List, [], ◌∷◌, ◌++◌, length, get_or, true, Option, Some, None, option_and_then, cond, Result, Ok, Err, refl, sym, ap, ◌∙◌, subst, inl, inr, arith, ne_eqb}
use Rattle.std.proofs.lemmas.Bool.{and_parts, and_from, leb-true, le-leb, ltb-true, lt-ltb, le-ltb, cases_lt}
use Rattle.std.proofs.lemmas.Str.Parse.{IsDigitsTest, IsNumeralModel, numerals_by_value, without_leading_plus_none}
use Rattle.std.specs.Prelude.{nat_lt, IfNone}
use Rattle.std.specs.Char.{is_ascii_digit}
use Rattle.std.specs.List.{list_all}
use Rattle.std.specs.Result.{result_ok}
use Rattle.std.specs.Str.Parse.{IsNumeral, digits_value, without_leading_plus, ParsesUnsigned}
use Rattle.serde_json.specs.Data.{Data}
use Rattle.serde_json.specs.Find.{get_item}
use Rattle.serde_json.specs.View.{items_view}
use Rattle.serde_json.specs.declared.value.Value.{Value}
use Rattle.serde_json.proofs.Views.{get_item_past}
use Rattle.ipam_json.specs.Path.{step, follow, names_of, at_path, is_index, index_of}

-- no byte of the list is a dot
abbrev pub Lacks : List ℕ → Type 0
Lacks xs = (i : ℕ) → i < length xs → get_or xs i 0 ≢ 46

names_of-one : (xs : List ℕ) → Lacks xs → names_of xs ≡ xs ∷ []
names_of-one [] h = refl
names_of-one (x ∷ xs) h = rw (ne_eqb x 46 (h 0 (omega arith)), names_of-one xs (λ i less. h (suc i) (omega arith)))

names_of-first : (xs rest : List ℕ) → Lacks xs → names_of (xs ++ 46 ∷ rest) ≡ xs ∷ names_of rest
names_of-first [] rest h = refl
names_of-first (x ∷ xs) rest h = rw (ne_eqb x 46 (h 0 (omega arith)), names_of-first xs rest (λ i less. h (suc i) (omega arith)))

pub follow_first : (xs rest : List ℕ) (d : Data) → Lacks xs → follow (names_of (xs ++ 46 ∷ rest)) d ≡ option_and_then (follow (names_of rest)) (step xs d)
follow_first xs rest d h = ap (λ names. follow names d) (names_of-first xs rest h)

found_itself : (o : Option Data) → option_and_then Some o ≡ o
found_itself None = refl
found_itself (Some d) = refl

pub follow_last : (xs : List ℕ) (d : Data) → Lacks xs → follow (names_of xs) d ≡ step xs d
follow_last xs d h = ap (λ names. follow names d) (names_of-one xs h) ∙ found_itself (step xs d)

pub at_path_names : (path : List ℕ) (d : Data) → 0 < length path → at_path path d ≡ follow (names_of path) d
at_path_names [] d some = absurd (omega arith)
at_path_names (c ∷ path) d some = refl

-- an index that is past every list finds nothing
pub item_past : (vs : List Value) (o : Option ℕ) → length vs < 2 ^ 64 → ((i : ℕ) → o ≡ Some i → 2 ^ 64 ≤ i) → None ≡ option_and_then (λ i. get_item i (items_view vs)) o
item_past vs None short large = refl
item_past vs (Some i) short large = let far = large i refl in get_item_past vs i (omega arith)

-- ---- indexes

pub digit_tests : IsDigitsTest (λ ds. list_all is_ascii_digit ds ≡ true)
digit_tests = record {
  empty = refl;
  parts = λ c cs e. let k = and_parts (is_ascii_digit c) (list_all is_ascii_digit cs) e in let m = and_parts (nat_le 48 c) (nat_le c 57) k.0 in ((leb-true 48 c m.0, leb-true c 57 m.1), k.1);
  more = λ c cs k e. and_from _ _ (and_from _ _ (le-leb 48 c k.0) (le-leb c 57 k.1)) e;
}

pub digit_texts : IsNumeralModel (λ ds. list_all is_ascii_digit ds ≡ true) (digits_value 10)
digit_texts = numerals_by_value _ digit_tests

no_plus : (name : List ℕ) → list_all is_ascii_digit name ≡ true → get_or name 0 0 ≢ 43
no_plus [] h e = omega arith
no_plus (c ∷ cs) h e = let digit = (digit_tests.parts c cs h).0 in omega (arith, digit.0)

-- an index is a numeral that `parse` reads
pub index_numeral : (name : List ℕ) → is_index name ≡ true → (without_leading_plus name ≡ name) × IsNumeral 10 name
index_numeral name h =
    let tests = and_parts _ (list_all is_ascii_digit name) h in
    let some = (and_parts (nat_lt 0 (length name)) _ tests.0).0 in
    (without_leading_plus_none name (no_plus name tests.1), (ltb-true 0 (length name) some, digit_texts.to name tests.1))

-- what `parse` reads of an index is its value, where so many bits hold it
pub index_parsed : {E : Type 0} (bits : ℕ) (name : List ℕ) (r : Result ℕ E) → is_index name ≡ true → ParsesUnsigned bits 10 name r → result_ok r ≡ cond (nat_lt (digits_value 10 name) (2 ^ bits)) (Some (digits_value 10 name)) None
index_parsed bits name (Ok n) index h =
    let numeral = index_numeral name index in
    let P : List ℕ → Type 0 = λ s. digits_value 10 s < 2 ^ bits in
    let less = subst P numeral.0 h.0.1 in
    let value : n ≡ digits_value 10 name = h.1 ∙ ap (digits_value 10) numeral.0 in
    rw (lt-ltb (digits_value 10 name) (2 ^ bits) less) (ap Some value)
index_parsed bits name (Err e) index h =
    let numeral = index_numeral name index in
    let P : List ℕ → Type 0 = λ s. ¬ (IsNumeral 10 s × (digits_value 10 s < 2 ^ bits)) in
    let refused = subst P numeral.0 h in
    elim (cases_lt (digits_value 10 name) (2 ^ bits)) [
      | inl less ↦ absurd (refused (numeral.1, less))
      | inr large ↦ rw (le-ltb (digits_value 10 name) (2 ^ bits) large) refl
    ]

-- an index that `parse` refuses is too large
pub index_refused : (name : List ℕ) → is_index name ≡ true → ¬ (IsNumeral 10 (without_leading_plus name) × (digits_value 10 (without_leading_plus name) < 2 ^ 64)) → (i : ℕ) → index_of name ≡ Some i → 2 ^ 64 ≤ i
index_refused name h refused i e =
    let numeral = index_numeral name h in
    let value : digits_value 10 name ≡ i = let same = sym (ap (λ b. cond b (Some (digits_value 10 name)) None) h) ∙ e in cc in
    let plain : ¬ (IsNumeral 10 name × (digits_value 10 name < 2 ^ 64)) = subst (λ s. ¬ (IsNumeral 10 s × (digits_value 10 s < 2 ^ 64))) numeral.0 refused in
    elim (cases_lt i (2 ^ 64)) [ inl less ↦ absurd (plain (numeral.1, omega arith)) | inr large ↦ large ]

pub parse_none : {E : Type 0} (name : List ℕ) (r : Result ℕ E) → is_index name ≡ true → ParsesUnsigned 64 10 name r → IfNone (result_ok r) ((i : ℕ) → index_of name ≡ Some i → 2 ^ 64 ≤ i)
parse_none name (Ok x) h parses = tt
parse_none name (Err e) h parses = index_refused name h parses
