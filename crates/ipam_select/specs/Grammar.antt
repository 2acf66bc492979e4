-- The grammar. A phrase is a tree of productions, and has tokens, a depth and a value.
use Rattle.std.specs.Prelude.{◌≡◌, ℕ, suc, ◌≤◌, max, Bool, true, false, ◌⊎◌, List, [], ◌∷◌, ◌++◌, codes, ⊤}
use Rattle.std.specs.List.{list_all}
use Rattle.ipam_select.specs.Formula.{Formula, every, has, is, negation, among, contains, starts, ends, conjunction, disjunction, Formulas, no_formula, formula_then}
use Rattle.ipam_select.specs.Words.{is_blank, is_key_byte, is_key, is_value, lacks}
use Rattle.ipam_select.specs.Words as byte
use Rattle.ipam_select.specs.Lexing.{is_at}
use Rattle.ipam_select.specs.Reading.{put_value}
use Rattle.ipam_select.specs.declared.token.Token.{Token}
use Rattle.ipam_select.specs.declared.token.Token.TheVariants.{Word, Quoted, Mark}
use Rattle.ipam_select.specs.declared.token.Mark as mark
use Rattle.ipam_select.specs.declared.token.Mark.TheVariants.{Open, Close, OpenBrace, CloseBrace, Comma, Equal, Unequal, Bang, Ands, Bars}

-- ---- phrases

-- a comparison of a key's value
pub data Comparison : Type 0 where
  -- `== V`
  equals : List ℕ → Comparison
  -- `!= V`
  differs : List ℕ → Comparison
  -- `in {V, V}`
  one_of : List (List ℕ) → Comparison
  -- `not in {V, V}`
  none_of : List (List ℕ) → Comparison
  -- `contains V`
  holds : List ℕ → Comparison
  -- `starts with V`
  begins : List ℕ → Comparison
  -- `ends with V`
  finishes : List ℕ → Comparison

mutual
  pub data Literal : Type 0 where
    -- `!` and a literal
    refused : Literal → Literal
    -- `all()`
    everything : Literal
    -- `has(KEY)`
    present : List ℕ → Literal
    -- a key and a comparison of its value
    compared : List ℕ → Comparison → Literal
    -- a choice in parentheses
    grouped : Choice → Literal

  -- one literal, or several joined by `&&`
  pub data Chain : Type 0 where
    only : Literal → Chain
    both : Literal → Chain → Chain

  -- one chain, or several joined by `||`
  pub data Choice : Type 0 where
    alone : Chain → Choice
    either : Chain → Choice → Choice

-- ---- their tokens, before those of the rest

abbrev pub further_values : List (List ℕ) → List Token → List Token
further_values [] rest = rest
further_values (v ∷ vs) rest = Mark Comma ∷ Quoted v ∷ further_values vs rest

-- the values, with a comma between two
abbrev pub value_tokens : List (List ℕ) → List Token → List Token
value_tokens [] rest = rest
value_tokens (v ∷ vs) rest = Quoted v ∷ further_values vs rest

abbrev pub set_tokens : List (List ℕ) → List Token → List Token
set_tokens vs rest = Mark OpenBrace ∷ value_tokens vs (Mark CloseBrace ∷ rest)

abbrev pub comparison_tokens : Comparison → List Token → List Token
comparison_tokens (equals v) rest = Mark Equal ∷ Quoted v ∷ rest
comparison_tokens (differs v) rest = Mark Unequal ∷ Quoted v ∷ rest
comparison_tokens (one_of vs) rest = Word (codes "in") ∷ set_tokens vs rest
comparison_tokens (none_of vs) rest = Word (codes "not") ∷ Word (codes "in") ∷ set_tokens vs rest
comparison_tokens (holds v) rest = Word (codes "contains") ∷ Quoted v ∷ rest
comparison_tokens (begins v) rest = Word (codes "starts") ∷ Word (codes "with") ∷ Quoted v ∷ rest
comparison_tokens (finishes v) rest = Word (codes "ends") ∷ Word (codes "with") ∷ Quoted v ∷ rest

abbrev mutual
  pub literal_tokens : Literal → List Token → List Token
  literal_tokens (refused l) rest = Mark Bang ∷ literal_tokens l rest
  literal_tokens everything rest = Word (codes "all") ∷ Mark Open ∷ Mark Close ∷ rest
  literal_tokens (present key) rest = Word (codes "has") ∷ Mark Open ∷ Word key ∷ Mark Close ∷ rest
  literal_tokens (compared key c) rest = Word key ∷ comparison_tokens c rest
  literal_tokens (grouped c) rest = Mark Open ∷ choice_tokens c (Mark Close ∷ rest)

  pub chain_tokens : Chain → List Token → List Token
  chain_tokens (only l) rest = literal_tokens l rest
  chain_tokens (both l c) rest = literal_tokens l (Mark Ands ∷ chain_tokens c rest)

  pub choice_tokens : Choice → List Token → List Token
  choice_tokens (alone c) rest = chain_tokens c rest
  choice_tokens (either c d) rest = chain_tokens c (Mark Bars ∷ choice_tokens d rest)

-- ---- how deep `!` and parentheses nest in them; `!=` and `not in` count as `!`

abbrev pub comparison_depth : Comparison → ℕ
comparison_depth (equals v) = 0
comparison_depth (differs v) = 1
comparison_depth (one_of vs) = 0
comparison_depth (none_of vs) = 1
comparison_depth (holds v) = 0
comparison_depth (begins v) = 0
comparison_depth (finishes v) = 0

abbrev mutual
  pub literal_depth : Literal → ℕ
  literal_depth (refused l) = suc (literal_depth l)
  literal_depth everything = 0
  literal_depth (present key) = 0
  literal_depth (compared key c) = comparison_depth c
  literal_depth (grouped c) = suc (choice_depth c)

  pub chain_depth : Chain → ℕ
  chain_depth (only l) = literal_depth l
  chain_depth (both l c) = max (literal_depth l) (chain_depth c)

  pub choice_depth : Choice → ℕ
  choice_depth (alone c) = chain_depth c
  choice_depth (either c d) = max (chain_depth c) (choice_depth d)

-- ---- their values

-- the values in ascending order, each once: one after another is put to those before
abbrev pub put_all : List (List ℕ) → List (List ℕ) → List (List ℕ)
put_all before [] = before
put_all before (v ∷ vs) = put_all (put_value v before) vs

abbrev pub ascending : List (List ℕ) → List (List ℕ)
ascending vs = put_all [] vs

abbrev pub comparison_value : List ℕ → Comparison → Formula
comparison_value key (equals v) = is key v
comparison_value key (differs v) = negation (is key v)
comparison_value key (one_of vs) = among key (ascending vs)
comparison_value key (none_of vs) = negation (among key (ascending vs))
comparison_value key (holds v) = contains key v
comparison_value key (begins v) = starts key v
comparison_value key (finishes v) = ends key v

abbrev mutual
  pub literal_value : Literal → Formula
  literal_value (refused l) = negation (literal_value l)
  literal_value everything = every
  literal_value (present key) = has key
  literal_value (compared key c) = comparison_value key c
  literal_value (grouped c) = choice_value c

  pub chain_value : Chain → Formula
  chain_value (only l) = literal_value l
  chain_value (both l c) = conjunction (formula_then (literal_value l) (chain_members c))

  pub chain_members : Chain → Formulas
  chain_members (only l) = formula_then (literal_value l) no_formula
  chain_members (both l c) = formula_then (literal_value l) (chain_members c)

  pub choice_value : Choice → Formula
  choice_value (alone c) = chain_value c
  choice_value (either c d) = disjunction (formula_then (chain_value c) (choice_members d))

  pub choice_members : Choice → Formulas
  choice_members (alone c) = formula_then (chain_value c) no_formula
  choice_members (either c d) = formula_then (chain_value c) (choice_members d)

-- ---- the spelling of tokens

abbrev pub mark_spelling : mark.Mark → List ℕ
mark_spelling Open = codes "("
mark_spelling Close = codes ")"
mark_spelling OpenBrace = codes "{"
mark_spelling CloseBrace = codes "}"
mark_spelling Comma = codes ","
mark_spelling Equal = codes "=="
mark_spelling Unequal = codes "!="
mark_spelling Bang = codes "!"
mark_spelling Ands = codes "&&"
mark_spelling Bars = codes "||"

-- a word is a key, and a value stands in quotes of one kind, and without that quote in it
abbrev pub IsSpelling : Token → List ℕ → Type 0
IsSpelling (Word w) bytes = (is_key w ≡ true) × (bytes ≡ w)
IsSpelling (Quoted v) bytes =
    (is_value v ≡ true) × (quote : ℕ) × ((quote ≡ 39) ⊎ (quote ≡ 34)) × (lacks quote v ≡ true) × (bytes ≡ quote ∷ v ++ quote ∷ [])
IsSpelling (Mark m) bytes = bytes ≡ mark_spelling m

-- A word is as long as it can be. A `!` before `=` is part of `!=`: no phrase has a `!` and then `==`.
abbrev pub EndsAt : Token → List ℕ → Type 0
EndsAt (Word w) rest = byte.begins is_key_byte rest ≡ false
EndsAt (Quoted v) rest = ⊤
EndsAt (Mark Bang) rest = is_at 61 rest ≡ false
EndsAt (Mark _) rest = ⊤

abbrev pub is_blank_text : List ℕ → Bool
is_blank_text text = list_all is_blank text

-- the text is these tokens, with spaces and tabs before, between and after them
abbrev pub Spells : List ℕ → List Token → Type 0
Spells text [] = is_blank_text text ≡ true
Spells text (t ∷ ts) =
    (blanks : List ℕ) × (bytes : List ℕ) × (rest : List ℕ) × (text ≡ blanks ++ (bytes ++ rest)) × (is_blank_text blanks ≡ true)
    × IsSpelling t bytes × EndsAt t rest × Spells rest ts

-- a choice that the text spells
pub record IsPhrase (text : List ℕ) (f : Formula) : Type 0 where
  pub phrase : Choice
  pub spelled : Spells text (choice_tokens phrase [])
  pub depth : choice_depth phrase ≤ 32
  pub value : choice_value phrase ≡ f

-- The text may be read as the formula, whatever its length: spaces and tabs alone are `all()`.
abbrev pub Reads : List ℕ → Formula → Type 0
Reads text f = ((is_blank_text text ≡ true) × (f ≡ every)) ⊎ IsPhrase text f
