-- How the logic stores a formula: as a list of numbers that gives it back.
use Rattle.std.specs.Prelude.{◌≡◌, ℕ, zero, suc, ◌+◌, ◌≤◌, List, [], ◌∷◌, ◌++◌, length, take, drop, refl}
use Rattle.std.specs.Coded.{Coded, code_by, coded_ℕ, coded_list}
use Rattle.std.proofs.Common.{ap, ap₂, ◌∙◌, arith, length-append}
use Rattle.ipam_select.specs.Formula.{Formula, every, has, is, negation, among, contains, starts, ends, conjunction, disjunction, Formulas, no_formula, formula_then}

-- ---- to a list

abbrev pub put_text : List ℕ → List ℕ → List ℕ
put_text text rest = length text ∷ (text ++ rest)

abbrev pub put_texts : List (List ℕ) → List ℕ → List ℕ
put_texts [] rest = rest
put_texts (text ∷ texts) rest = put_text text (put_texts texts rest)

abbrev mutual
  pub put_formula : Formula → List ℕ → List ℕ
  put_formula every rest = 0 ∷ rest
  put_formula (has key) rest = 1 ∷ put_text key rest
  put_formula (is key v) rest = 2 ∷ put_text key (put_text v rest)
  put_formula (negation f) rest = 3 ∷ put_formula f rest
  put_formula (among key vs) rest = 4 ∷ put_text key (length vs ∷ put_texts vs rest)
  put_formula (contains key v) rest = 5 ∷ put_text key (put_text v rest)
  put_formula (starts key v) rest = 6 ∷ put_text key (put_text v rest)
  put_formula (ends key v) rest = 7 ∷ put_text key (put_text v rest)
  put_formula (conjunction fs) rest = 8 ∷ put_formulas fs rest
  put_formula (disjunction fs) rest = 9 ∷ put_formulas fs rest

  pub put_formulas : Formulas → List ℕ → List ℕ
  put_formulas no_formula rest = 0 ∷ rest
  put_formulas (formula_then f fs) rest = 1 ∷ put_formula f (put_formulas fs rest)

-- ---- and back

abbrev pub take_text : List ℕ → List ℕ × List ℕ
take_text [] = ([], [])
take_text (n ∷ xs) = (take n xs, drop n xs)

abbrev pub take_texts : ℕ → List ℕ → List (List ℕ) × List ℕ
take_texts zero xs = ([], xs)
take_texts (suc n) xs = ((take_text xs).0 ∷ (take_texts n (take_text xs).1).0, (take_texts n (take_text xs).1).1)

abbrev pub take_counted : List ℕ → List (List ℕ) × List ℕ
take_counted [] = ([], [])
take_counted (n ∷ xs) = take_texts n xs

abbrev pub one_text : (List ℕ → Formula) → List ℕ → Formula × List ℕ
one_text make xs = (make (take_text xs).0, (take_text xs).1)

abbrev pub two_texts : (List ℕ → List ℕ → Formula) → List ℕ → Formula × List ℕ
two_texts make xs = (make (take_text xs).0 (take_text (take_text xs).1).0, (take_text (take_text xs).1).1)

abbrev pub key_and_texts : List ℕ → Formula × List ℕ
key_and_texts xs = (among (take_text xs).0 (take_counted (take_text xs).1).0, (take_counted (take_text xs).1).1)

abbrev pub under : (Formula → Formula) → Formula × List ℕ → Formula × List ℕ
under make found = (make found.0, found.1)

abbrev pub over : (Formulas → Formula) → Formulas × List ℕ → Formula × List ℕ
over make found = (make found.0, found.1)

-- by the number in front
abbrev pub of_kind : ℕ → List ℕ → (List ℕ → Formula × List ℕ) → (List ℕ → Formulas × List ℕ) → Formula × List ℕ
of_kind zero xs inner members = (every, xs)
of_kind (suc zero) xs inner members = one_text has xs
of_kind (suc (suc zero)) xs inner members = two_texts is xs
of_kind (suc (suc (suc zero))) xs inner members = under negation (inner xs)
of_kind (suc (suc (suc (suc zero)))) xs inner members = key_and_texts xs
of_kind (suc (suc (suc (suc (suc zero))))) xs inner members = two_texts contains xs
of_kind (suc (suc (suc (suc (suc (suc zero)))))) xs inner members = two_texts starts xs
of_kind (suc (suc (suc (suc (suc (suc (suc zero))))))) xs inner members = two_texts ends xs
of_kind (suc (suc (suc (suc (suc (suc (suc (suc zero)))))))) xs inner members = over conjunction (members xs)
of_kind _ xs inner members = over disjunction (members xs)

abbrev pub of_members : ℕ → List ℕ → (List ℕ → Formula × List ℕ) → (List ℕ → Formulas × List ℕ) → Formulas × List ℕ
of_members zero xs first more = (no_formula, xs)
of_members (suc k) xs first more = let (f, after) = first xs in let (fs, end) = more after in (formula_then f fs, end)

-- The number bounds how deep the calls go.
abbrev mutual
  pub take_formula : ℕ → List ℕ → Formula × List ℕ
  take_formula zero xs = (every, xs)
  take_formula (suc n) [] = (every, [])
  take_formula (suc n) (kind ∷ xs) = of_kind kind xs (take_formula n) (take_formulas n)

  pub take_formulas : ℕ → List ℕ → Formulas × List ℕ
  take_formulas zero xs = (no_formula, xs)
  take_formulas (suc n) [] = (no_formula, [])
  take_formulas (suc n) (kind ∷ xs) = of_members kind xs (take_formula n) (take_formulas n)

abbrev pub to_list : Formula → List ℕ
to_list f = put_formula f []

abbrev pub from_list : List ℕ → Formula
from_list xs = (take_formula (length xs) xs).0

-- ---- the way back leads to the formula

front_back : (text rest : List ℕ) → take (length text) (text ++ rest) ≡ text
front_back [] rest = refl
front_back (b ∷ text) rest = ap (λ xs. b ∷ xs) (front_back text rest)

rest_back : (text rest : List ℕ) → drop (length text) (text ++ rest) ≡ rest
rest_back [] rest = refl
rest_back (b ∷ text) rest = rest_back text rest

text_back : (text rest : List ℕ) → take_text (put_text text rest) ≡ (text, rest)
text_back text rest = ap₂ (λ (x y : List ℕ). (x, y)) (front_back text rest) (rest_back text rest)

texts_back : (texts : List (List ℕ)) (rest : List ℕ) → take_texts (length texts) (put_texts texts rest) ≡ (texts, rest)
texts_back [] rest = refl
texts_back (text ∷ texts) rest =
    ap (λ (p : List ℕ × List ℕ). (p.0 ∷ (take_texts (length texts) p.1).0, (take_texts (length texts) p.1).1)) (text_back text (put_texts texts rest))
    ∙ ap (λ (p : List (List ℕ) × List ℕ). (text ∷ p.0, p.1)) (texts_back texts rest)

two_back : (make : List ℕ → List ℕ → Formula) (key v rest : List ℕ) → two_texts make (put_text key (put_text v rest)) ≡ (make key v, rest)
two_back make key v rest =
    ap (λ (p : List ℕ × List ℕ). (make p.0 (take_text p.1).0, (take_text p.1).1)) (text_back key (put_text v rest))
    ∙ ap (λ (p : List ℕ × List ℕ). (make key p.0, p.1)) (text_back v rest)

among_back : (key : List ℕ) (vs : List (List ℕ)) (rest : List ℕ) → key_and_texts (put_text key (length vs ∷ put_texts vs rest)) ≡ (among key vs, rest)
among_back key vs rest =
    ap (λ (p : List ℕ × List ℕ). (among p.0 (take_counted p.1).0, (take_counted p.1).1)) (text_back key (length vs ∷ put_texts vs rest))
    ∙ ap (λ (p : List (List ℕ) × List ℕ). (among key p.0, p.1)) (texts_back vs rest)

-- how many parts it has, at least as many as it needs turns
abbrev mutual
  pub size : Formula → ℕ
  size every = 1
  size (has key) = 1
  size (is key v) = 1
  size (negation f) = suc (size f)
  size (among key vs) = 1
  size (contains key v) = 1
  size (starts key v) = 1
  size (ends key v) = 1
  size (conjunction fs) = suc (sizes fs)
  size (disjunction fs) = suc (sizes fs)

  pub sizes : Formulas → ℕ
  sizes no_formula = 1
  sizes (formula_then f fs) = suc (size f + sizes fs)

some_size : (f : Formula) → 1 ≤ size f
some_size every = omega arith
some_size (has key) = omega arith
some_size (is key v) = omega arith
some_size (negation f) = omega arith
some_size (among key vs) = omega arith
some_size (contains key v) = omega arith
some_size (starts key v) = omega arith
some_size (ends key v) = omega arith
some_size (conjunction fs) = omega arith
some_size (disjunction fs) = omega arith

some_sizes : (fs : Formulas) → 1 ≤ sizes fs
some_sizes no_formula = omega arith
some_sizes (formula_then f fs) = omega arith

mutual
  formula_back : (f : Formula) (n : ℕ) (rest : List ℕ) → size f ≤ n → take_formula n (put_formula f rest) ≡ (f, rest)
  formula_back f zero rest h = absurd (omega (arith, some_size f))
  formula_back every (suc n) rest h = refl
  formula_back (has key) (suc n) rest h = ap (λ (p : List ℕ × List ℕ). (has p.0, p.1)) (text_back key rest)
  formula_back (is key v) (suc n) rest h = two_back is key v rest
  formula_back (negation f) (suc n) rest h = ap (under negation) (formula_back f n rest (omega arith))
  formula_back (among key vs) (suc n) rest h = among_back key vs rest
  formula_back (contains key v) (suc n) rest h = two_back contains key v rest
  formula_back (starts key v) (suc n) rest h = two_back starts key v rest
  formula_back (ends key v) (suc n) rest h = two_back ends key v rest
  formula_back (conjunction fs) (suc n) rest h = ap (over conjunction) (formulas_back fs n rest (omega arith))
  formula_back (disjunction fs) (suc n) rest h = ap (over disjunction) (formulas_back fs n rest (omega arith))

  formulas_back : (fs : Formulas) (n : ℕ) (rest : List ℕ) → sizes fs ≤ n → take_formulas n (put_formulas fs rest) ≡ (fs, rest)
  formulas_back fs zero rest h = absurd (omega (arith, some_sizes fs))
  formulas_back no_formula (suc n) rest h = refl
  formulas_back (formula_then f fs) (suc n) rest h =
      ap (λ (p : Formula × List ℕ). (formula_then p.0 (take_formulas n p.1).0, (take_formulas n p.1).1)) (formula_back f n (put_formulas fs rest) (omega arith))
      ∙ ap (λ (p : Formulas × List ℕ). (formula_then f p.0, p.1)) (formulas_back fs n rest (omega arith))

enough_texts : (texts : List (List ℕ)) (rest : List ℕ) → length rest ≤ length (put_texts texts rest)
enough_texts [] rest = omega arith
enough_texts (text ∷ texts) rest = omega (arith, length-append text (put_texts texts rest), enough_texts texts rest)

mutual
  enough : (f : Formula) (rest : List ℕ) → size f + length rest ≤ length (put_formula f rest)
  enough every rest = omega arith
  enough (has key) rest = omega (arith, length-append key rest)
  enough (is key v) rest = omega (arith, length-append key (put_text v rest), length-append v rest)
  enough (negation f) rest = omega (arith, enough f rest)
  enough (among key vs) rest = omega (arith, length-append key (length vs ∷ put_texts vs rest), enough_texts vs rest)
  enough (contains key v) rest = omega (arith, length-append key (put_text v rest), length-append v rest)
  enough (starts key v) rest = omega (arith, length-append key (put_text v rest), length-append v rest)
  enough (ends key v) rest = omega (arith, length-append key (put_text v rest), length-append v rest)
  enough (conjunction fs) rest = omega (arith, enough_all fs rest)
  enough (disjunction fs) rest = omega (arith, enough_all fs rest)

  enough_all : (fs : Formulas) (rest : List ℕ) → sizes fs + length rest ≤ length (put_formulas fs rest)
  enough_all no_formula rest = omega arith
  enough_all (formula_then f fs) rest = omega (arith, enough f (put_formulas fs rest), enough_all fs rest)

pub from_list-to_list : (f : Formula) → from_list (to_list f) ≡ f
from_list-to_list f = ap (λ (p : Formula × List ℕ). p.0) (formula_back f (length (to_list f)) [] (omega (arith, enough f [])))

-- the code by which a proof tells formulas apart
abbrev pub coded_formula : Coded Formula
coded_formula = code_by (List ℕ) (coded_list coded_ℕ) to_list from_list from_list-to_list
