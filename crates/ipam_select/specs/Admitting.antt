-- Which lists of labels a formula admits.
use Rattle.std.specs.Prelude.{ℕ, List, [], ◌∷◌, Bool, true, false, not, ◌&&◌, ◌||◌, nat_eq}
use Rattle.std.specs.List.{list_any}
use Rattle.std.specs.List as list
use Rattle.std.specs.Cmp.Lexicographic.{pointwise}
use Rattle.ipam_select.specs.Formula.{Formula, every, has, is, negation, among, contains, starts, ends, conjunction, disjunction, Formulas, no_formula, formula_then}

-- a list of keys with their values
abbrev pub Labels : Type 0
Labels = List (List ℕ × List ℕ)

abbrev pub same : List ℕ → List ℕ → Bool
same = pointwise nat_eq

-- the key is there, with a value that passes the test
abbrev pub carries : List ℕ → (List ℕ → Bool) → Labels → Bool
carries key test labels = list_any (λ label. same label.0 key && test label.1) labels

-- the text begins with this part
abbrev pub begins_with : List ℕ → List ℕ → Bool
begins_with part text = list.starts_with nat_eq text part

-- the part stands somewhere in the text
abbrev pub has_part : List ℕ → List ℕ → Bool
has_part part [] = begins_with part []
has_part part (b ∷ text) = begins_with part (b ∷ text) || has_part part text

-- the text ends with this part
abbrev pub ends_with : List ℕ → List ℕ → Bool
ends_with part text = list.ends_with nat_eq text part

abbrev mutual
  pub admits : Formula → Labels → Bool
  admits every labels = true
  admits (has key) labels = carries key (λ value. true) labels
  admits (is key value) labels = carries key (λ found. same found value) labels
  admits (negation f) labels = not (admits f labels)
  admits (among key values) labels = carries key (λ found. list_any (λ value. same found value) values) labels
  admits (contains key part) labels = carries key (has_part part) labels
  admits (starts key part) labels = carries key (begins_with part) labels
  admits (ends key part) labels = carries key (ends_with part) labels
  admits (conjunction fs) labels = all_admit fs labels
  admits (disjunction fs) labels = some_admits fs labels

  pub all_admit : Formulas → Labels → Bool
  all_admit no_formula labels = true
  all_admit (formula_then f fs) labels = admits f labels && all_admit fs labels

  pub some_admits : Formulas → Labels → Bool
  some_admits no_formula labels = false
  some_admits (formula_then f fs) labels = admits f labels || some_admits fs labels
