-- Which labels a selector admits, in small cases.
use Rattle.std.specs.Prelude.{◌≡◌, Bool, true, false, List, [], ◌∷◌, codes, map}
use Rattle.ipam_select.specs.Formula.{Formula, every, has, is, negation, among, contains, starts, ends, conjunction, disjunction, Formulas, no_formula, formula_then}
use Rattle.ipam_select.specs.Admitting.{Labels, admits}

-- a node in the west, another in the east with a gpu, and one without labels
abbrev pub nodes : List Labels
nodes =
    ((codes "zone", codes "west") ∷ [])
    ∷ ((codes "gpu", codes "") ∷ (codes "zone", codes "east") ∷ [])
    ∷ []
    ∷ []

-- which of the three it admits
abbrev pub admitted : Formula → List Bool
admitted selector = map (admits selector) nodes

abbrev pub both : Formula → Formula → Formulas
both first second = formula_then first (formula_then second no_formula)

abbrev pub SelectsAll : Type 0
SelectsAll = admitted every ≡ true ∷ true ∷ true ∷ []

abbrev pub SelectsByKey : Type 0
SelectsByKey = admitted (has (codes "gpu")) ≡ false ∷ true ∷ false ∷ []

abbrev pub SelectsByValue : Type 0
SelectsByValue = admitted (is (codes "zone") (codes "west")) ≡ true ∷ false ∷ false ∷ []

-- the empty value is a value
abbrev pub SelectsByEmptyValue : Type 0
SelectsByEmptyValue = admitted (is (codes "gpu") (codes "")) ≡ false ∷ true ∷ false ∷ []

-- a node without the key has no value that differs, and is not one that has the value
abbrev pub SelectsOthers : Type 0
SelectsOthers = admitted (negation (is (codes "zone") (codes "west"))) ≡ false ∷ true ∷ true ∷ []

abbrev pub SelectsOneOf : Type 0
SelectsOneOf =
    admitted (among (codes "zone") (codes "north" ∷ codes "west" ∷ [])) ≡ true ∷ false ∷ false ∷ []

abbrev pub SelectsNoneOf : Type 0
SelectsNoneOf = admitted (among (codes "zone") []) ≡ false ∷ false ∷ false ∷ []

abbrev pub SelectsByPart : Type 0
SelectsByPart = admitted (contains (codes "zone") (codes "es")) ≡ true ∷ false ∷ false ∷ []

abbrev pub SelectsByLastPart : Type 0
SelectsByLastPart = admitted (contains (codes "zone") (codes "st")) ≡ true ∷ true ∷ false ∷ []

abbrev pub SelectsByEmptyPart : Type 0
SelectsByEmptyPart = admitted (contains (codes "zone") []) ≡ true ∷ true ∷ false ∷ []

abbrev pub SelectsByStart : Type 0
SelectsByStart = admitted (starts (codes "zone") (codes "we")) ≡ true ∷ false ∷ false ∷ []

abbrev pub SelectsByEnd : Type 0
SelectsByEnd = admitted (ends (codes "zone") (codes "ast")) ≡ false ∷ true ∷ false ∷ []

-- a start that is longer than the value
abbrev pub SelectsByLongStart : Type 0
SelectsByLongStart = admitted (starts (codes "zone") (codes "western")) ≡ false ∷ false ∷ false ∷ []

abbrev pub SelectsBoth : Type 0
SelectsBoth =
    admitted (conjunction (both (has (codes "zone")) (negation (has (codes "gpu"))))) ≡ true ∷ false ∷ false ∷ []

abbrev pub SelectsEither : Type 0
SelectsEither =
    admitted (disjunction (both (is (codes "zone") (codes "west")) (has (codes "gpu")))) ≡ true ∷ true ∷ false ∷ []
