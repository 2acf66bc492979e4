-- What a selector is, as plain data: a formula over the labels of a node.
use Rattle.std.specs.Prelude.{ℕ, List, [], ◌∷◌, map}
use Rattle.ipam_select.specs.declared.selector.Selector.{Selector, fold-Selector}
use Rattle.ipam_select.specs.declared.selector.Selector.TheOpen.{Selector-F}

mutual
  pub data Formula : Type 0 where
    every : Formula
    has : List ℕ → Formula
    is : List ℕ → List ℕ → Formula
    negation : Formula → Formula
    among : List ℕ → List (List ℕ) → Formula
    contains : List ℕ → List ℕ → Formula
    starts : List ℕ → List ℕ → Formula
    ends : List ℕ → List ℕ → Formula
    conjunction : Formulas → Formula
    disjunction : Formulas → Formula

  pub data Formulas : Type 0 where
    no_formula : Formulas
    formula_then : Formula → Formulas → Formulas

abbrev pub formulas_of : List Formula → Formulas
formulas_of [] = no_formula
formulas_of (f ∷ fs) = formula_then f (formulas_of fs)

-- one level, with each selector inside already seen as its formula
abbrev pub formula_step : Selector-F Formula → Formula
formula_step Selector-F.All = every
formula_step (Selector-F.Has key) = has key
formula_step (Selector-F.Is key value) = is key value
formula_step (Selector-F.Not member) = negation member.value
formula_step (Selector-F.In key values) = among key values.items
formula_step (Selector-F.Contains key value) = contains key value
formula_step (Selector-F.Starts key value) = starts key value
formula_step (Selector-F.Ends key value) = ends key value
formula_step (Selector-F.And members) = conjunction (formulas_of members.items)
formula_step (Selector-F.Or members) = disjunction (formulas_of members.items)

-- the formula that a selector stands for
abbrev pub formula : Selector → Formula
formula = fold-Selector Formula formula_step

abbrev pub formulas : List Selector → Formulas
formulas members = formulas_of (map formula members)
