-- Which formulas are read of some text, as tests that compute.
use Rattle.std.specs.Prelude.{◌≡◌, ℕ, ◌-◌, ◌<◌, ◌≤◌, ◌⊎◌, Option, Some, None, Bool, true, false, ◌&&◌, ◌||◌, List, [], ◌∷◌, length, nat_le, nat_lt}
use Rattle.std.specs.List.{list_all}
use Rattle.std.specs.Cmp.Lexicographic.{slice_cmp}
use Rattle.std.specs.Ordering.{nat_cmp, is_lt}
use Rattle.ipam_select.specs.Formula.{Formula, every, has, is, negation, among, contains, starts, ends, conjunction, disjunction, Formulas, no_formula, formula_then}
use Rattle.ipam_select.specs.Words.{is_key, is_value, lacks}
use Rattle.ipam_select.specs.Printing.{printed, needs_parentheses}
use Rattle.ipam_select.specs.Grammar.{Reads}

-- one kind of quote isn't in the value
abbrev pub fits_quotes : List ℕ → Bool
fits_quotes v = lacks 39 v || lacks 34 v

-- a value that can stand in quotes
abbrev pub is_quotable : List ℕ → Bool
is_quotable v = is_value v && fits_quotes v

-- the values ascend and differ
abbrev pub ascends : List (List ℕ) → Bool
ascends [] = true
ascends (v ∷ []) = true
ascends (v ∷ w ∷ vs) = is_lt (slice_cmp nat_cmp v w) && ascends (w ∷ vs)

-- at least two
abbrev pub are_several : Formulas → Bool
are_several no_formula = false
are_several (formula_then f no_formula) = false
are_several (formula_then f (formula_then g fs)) = true

-- a member, by whether it is formed at a depth
abbrev pub member_formed : Bool → ℕ → (ℕ → Bool) → Bool
member_formed true depth formed = nat_lt 0 depth && formed (depth - 1)
member_formed false depth formed = formed depth

-- keys, values and members are as they are read, and the printed form nests `!` and parentheses at most so deep
abbrev mutual
  pub is_formed : ℕ → Formula → Bool
  is_formed depth every = true
  is_formed depth (has key) = is_key key
  is_formed depth (is key v) = is_key key && is_quotable v
  is_formed depth (negation f) = nat_lt 0 depth && member_formed (needs_parentheses true f) (depth - 1) (λ d. is_formed d f)
  is_formed depth (among key vs) = is_key key && list_all is_quotable vs && ascends vs
  is_formed depth (contains key v) = is_key key && is_quotable v
  is_formed depth (starts key v) = is_key key && is_quotable v
  is_formed depth (ends key v) = is_key key && is_quotable v
  is_formed depth (conjunction fs) = are_several fs && are_formed true depth fs
  is_formed depth (disjunction fs) = are_several fs && are_formed false depth fs

  pub are_formed : Bool → ℕ → Formulas → Bool
  are_formed tight depth no_formula = true
  are_formed tight depth (formula_then f fs) =
      member_formed (needs_parentheses tight f) depth (λ d. is_formed d f) && are_formed tight depth fs

abbrev pub is_member_formed : Bool → ℕ → Formula → Bool
is_member_formed tight depth f = member_formed (needs_parentheses tight f) depth (λ d. is_formed d f)

-- a text that isn't too long
abbrev pub is_short : List ℕ → Bool
is_short text = nat_le (length text) 1024

-- the formula is read of its printed form
abbrev pub is_sound : Formula → Bool
is_sound f = is_formed 32 f && is_short (printed f)

-- ---- what a call says of a text

-- no formula is a reading of the text
abbrev pub IsUnreadable : List ℕ → Type 0
IsUnreadable text = (f : Formula) → Reads text f → ⊥

-- the text is read as the formula and as no other
abbrev pub IsReadAs : List ℕ → Formula → Type 0
IsReadAs text f = Reads text f × ((g : Formula) → Reads text g → g ≡ f)

-- neither the text nor the printed form of what it means is too long
abbrev pub AreShort : List ℕ → Formula → Type 0
AreShort text f = (length text ≤ 1024) × (length (printed f) ≤ 1024)

-- the text has a reading, and it or the printed form of that is too long
abbrev pub IsTooLong : List ℕ → Type 0
IsTooLong text = (f : Formula) × Reads text f × ((1024 < length text) ⊎ (1024 < length (printed f)))

-- some text is read as the formula, and isn't too long
abbrev pub IsReadOfSome : Formula → Type 0
IsReadOfSome f = (text : List ℕ) × IsReadAs text f × AreShort text f

-- what a reader of lists found, with the two lengths
abbrev pub IsLongReading : List ℕ → Option Formula → Type 0
IsLongReading text None = ⊥
IsLongReading text (Some f) = (is_short text && is_short (printed f)) ≡ false
