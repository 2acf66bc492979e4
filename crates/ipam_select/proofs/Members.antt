-- Members that were read, before those of the rest.
use Rattle.std.proofs.Common.{◌≡◌, ℕ, zero, suc, ◌-◌, ◌<◌, List, [], ◌∷◌, ◌++◌, Option, Some, None, option_and_then, refl, ap, ◌∙◌, arith}
use Rattle.ipam_select.specs.Formula.{Formula, Formulas, no_formula, formula_then, formula, formulas}
use Rattle.ipam_select.specs.Reading.{Parse, parse_map, behind_mark, joined_more, joined}
use Rattle.ipam_select.specs.declared.token.Token.{Token}
use Rattle.ipam_select.specs.declared.token.Mark as mark
use Rattle.ipam_select.specs.declared.selector.Selector.{Selector}

abbrev pub before : List Selector → Formulas → Formulas
before [] fs = fs
before (s ∷ ss) fs = formula_then (formula s) (before ss fs)

abbrev pub formulas_before : List Selector → Option (Formulas × List Token) → Option (Formulas × List Token)
formulas_before ss r = parse_map (before ss) r

pub before_none : (r : Option (Formulas × List Token)) → r ≡ formulas_before [] r
before_none None = refl
before_none (Some p) = refl

suc-less : (n : ℕ) → suc n - 1 ≡ n
suc-less n = omega arith

before_last : (ss : List Selector) (s : Selector) (fs : Formulas) → before ss (formula_then (formula s) fs) ≡ before (ss ++ s ∷ []) fs
before_last [] s fs = refl
before_last (t ∷ ss) s fs = ap (formula_then (formula t)) (before_last ss s fs)

before_all : (ss : List Selector) → before ss no_formula ≡ formulas ss
before_all [] = refl
before_all (s ∷ ss) = ap (formula_then (formula s)) (before_all ss)

one_more : (ss : List Selector) (s : Selector) (r : Option (Formulas × List Token)) → formulas_before ss (parse_map (formula_then (formula s)) r) ≡ formulas_before (ss ++ s ∷ []) r
one_more ss s None = refl
one_more ss s (Some p) = ap (λ fs. Some (fs, p.1)) (before_last ss s p.0)

module _ (m : mark.Mark) (read : Parse Formula) (ss : List Selector) where
  step : (n : ℕ) (ts : List Token) → 0 < n → joined m read n ts ≡ option_and_then (λ p. joined_more (joined m read (n - 1)) p.0 p.1 (behind_mark m p.1)) (read ts)
  unfolding joined
  step zero ts h = absurd (omega arith)
  step (suc n) ts h = rw suc-less refl

  pub joined_go : (n : ℕ) (ts : List Token) (s : Selector) (rest more : List Token) → 0 < n → read ts ≡ Some (formula s, rest) → behind_mark m rest ≡ Some more →
      formulas_before ss (joined m read n ts) ≡ formulas_before (ss ++ s ∷ []) (joined m read (n - 1) more)
  joined_go n ts s rest more h e f = ap (formulas_before ss) (step n ts h) ∙ rw (e, f) (one_more ss s (joined m read (n - 1) more))

  pub joined_end : (n : ℕ) (ts : List Token) (s : Selector) (rest : List Token) → 0 < n → read ts ≡ Some (formula s, rest) → behind_mark m rest ≡ None →
      formulas_before ss (joined m read n ts) ≡ Some (formulas (ss ++ s ∷ []), rest)
  joined_end n ts s rest h e f = ap (formulas_before ss) (step n ts h) ∙ rw (e, f) (ap (λ fs. Some (fs, rest)) (before_last ss s no_formula ∙ before_all (ss ++ s ∷ [])))

  pub joined_fail : (n : ℕ) (ts : List Token) → read ts ≡ None → formulas_before ss (joined m read n ts) ≡ None
  unfolding joined
  joined_fail zero ts e = refl
  joined_fail (suc n) ts e = rw e refl
