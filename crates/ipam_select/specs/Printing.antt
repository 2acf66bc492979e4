-- The printed form.
use Rattle.std.specs.Prelude.{ℕ, ◌+◌, Bool, true, false, List, [], ◌∷◌, ◌++◌, length, codes, if◌then◌else◌}
use Rattle.ipam_select.specs.Formula.{Formula, every, has, is, negation, among, contains, starts, ends, conjunction, disjunction, Formulas, no_formula, formula_then}
use Rattle.ipam_select.specs.Words.{lacks}

-- `'`, unless the value has one
abbrev pub quote_of : List ℕ → ℕ
quote_of v = if lacks 39 v then 39 else 34

abbrev pub quoted_text : List ℕ → List ℕ
quoted_text v = quote_of v ∷ (v ++ quote_of v ∷ [])

-- what stands between two values
abbrev pub value_lead : Bool → List ℕ
value_lead first = if first then [] else codes ", "

-- the values; the flag says that none stands before them
abbrev pub values_text : Bool → List (List ℕ) → List ℕ
values_text first [] = []
values_text first (v ∷ vs) = value_lead first ++ (quoted_text v ++ values_text false vs)

-- what stands between two members: those of an And are tight
abbrev pub member_lead : Bool → Bool → List ℕ
member_lead tight first = if first then [] else (if tight then codes " && " else codes " || ")

-- A member stands in parentheses where it is an Or, and in a negation or an And also where it is an And.
abbrev pub needs_parentheses : Bool → Formula → Bool
needs_parentheses tight (conjunction fs) = tight
needs_parentheses tight (disjunction fs) = true
needs_parentheses tight _ = false

abbrev pub wrapped : Bool → List ℕ → List ℕ
wrapped true text = codes "(" ++ (text ++ codes ")")
wrapped false text = text

abbrev mutual
  pub printed : Formula → List ℕ
  printed every = codes "all()"
  printed (has key) = codes "has(" ++ (key ++ codes ")")
  printed (is key v) = key ++ (codes " == " ++ quoted_text v)
  printed (negation f) = codes "!" ++ wrapped (needs_parentheses true f) (printed f)
  printed (among key vs) = key ++ (codes " in {" ++ (values_text true vs ++ codes "}"))
  printed (contains key v) = key ++ (codes " contains " ++ quoted_text v)
  printed (starts key v) = key ++ (codes " starts with " ++ quoted_text v)
  printed (ends key v) = key ++ (codes " ends with " ++ quoted_text v)
  printed (conjunction fs) = members_text true true fs
  printed (disjunction fs) = members_text false true fs

  -- the members of an And or of an Or; the second flag says that none stands before them
  pub members_text : Bool → Bool → Formulas → List ℕ
  members_text tight first no_formula = []
  members_text tight first (formula_then f fs) =
      member_lead tight first ++ (wrapped (needs_parentheses tight f) (printed f) ++ members_text tight false fs)

-- ---- how long it is

abbrev pub quoted_len : List ℕ → ℕ
quoted_len v = length v + 2

abbrev pub values_len : ℕ → List (List ℕ) → ℕ
values_len lead [] = 0
values_len lead (v ∷ vs) = lead + quoted_len v + values_len 2 vs

abbrev pub wrapped_len : Bool → ℕ → ℕ
wrapped_len true n = n + 2
wrapped_len false n = n

abbrev mutual
  pub printed_len : Formula → ℕ
  printed_len every = 5
  printed_len (has key) = length key + 5
  printed_len (is key v) = length key + (quoted_len v + 4)
  printed_len (negation f) = wrapped_len (needs_parentheses true f) (printed_len f) + 1
  printed_len (among key vs) = length key + (values_len 0 vs + 6)
  printed_len (contains key v) = length key + (quoted_len v + 10)
  printed_len (starts key v) = length key + (quoted_len v + 13)
  printed_len (ends key v) = length key + (quoted_len v + 11)
  printed_len (conjunction fs) = members_len true 0 fs
  printed_len (disjunction fs) = members_len false 0 fs

  pub members_len : Bool → ℕ → Formulas → ℕ
  members_len tight lead no_formula = 0
  members_len tight lead (formula_then f fs) =
      lead + wrapped_len (needs_parentheses tight f) (printed_len f) + members_len tight 4 fs
