-- How tokens are read. Each reader takes its tokens from the front, and hands on what follows them.
use Rattle.std.specs.Prelude.{ℕ, zero, suc, Bool, true, false, List, [], ◌∷◌, length, codes, if◌then◌else◌, Option, Some, None, option_map, option_and_then}
use Rattle.std.specs.Cmp.Lexicographic.{slice_cmp}
use Rattle.std.specs.Ordering.{nat_cmp, match_ordering}
use Rattle.ipam_select.specs.Formula.{Formula, every, has, is, negation, among, contains, starts, ends, conjunction, disjunction, Formulas, no_formula, formula_then}
use Rattle.ipam_select.specs.Admitting.{same}
use Rattle.ipam_select.specs.Lexing.{tokens}
use Rattle.ipam_select.specs.declared.token.Token.{Token}
use Rattle.ipam_select.specs.declared.token.Token.TheVariants.{Word, Quoted, Mark}
use Rattle.ipam_select.specs.declared.token.Mark as mark
use Rattle.ipam_select.specs.declared.token.Mark.TheVariants.{Open, Close, OpenBrace, CloseBrace, Comma, Equal, Unequal, Bang, Ands, Bars}
use Rattle.ipam_select.specs.declared.token.Operator.{Operator}
use Rattle.ipam_select.specs.declared.token.Operator.TheVariants.{Equals, Differs, OneOf, NoneOf, Contains, Starts, Ends}

abbrev pub Parse : Type 0 → Type 0
Parse A = List Token → Option (A × List Token)

abbrev pub parse_map : {A B : Type 0} → (A → B) → Option (A × List Token) → Option (B × List Token)
parse_map f r = option_map (λ p. (f p.0, p.1)) r

-- a reader that reads nothing
abbrev pub parses_nothing : {A : Type 0} → Parse A
parses_nothing ts = None

abbrev pub same_mark : mark.Mark → mark.Mark → Bool
same_mark Open Open = true
same_mark Close Close = true
same_mark OpenBrace OpenBrace = true
same_mark CloseBrace CloseBrace = true
same_mark Comma Comma = true
same_mark Equal Equal = true
same_mark Unequal Unequal = true
same_mark Bang Bang = true
same_mark Ands Ands = true
same_mark Bars Bars = true
same_mark _ _ = false

-- the token is this mark
abbrev pub is_mark : mark.Mark → Token → Bool
is_mark m (Mark found) = same_mark found m
is_mark m (Word w) = false
is_mark m (Quoted v) = false

-- what follows this token
abbrev pub behind_mark : mark.Mark → List Token → Option (List Token)
behind_mark m [] = None
behind_mark m (t ∷ ts) = if is_mark m t then Some ts else None

-- what follows this word
abbrev pub after_word : List ℕ → List Token → Option (List Token)
after_word w [] = None
after_word w (Mark found ∷ ts) = None
after_word w (Word found ∷ ts) = if same found w then Some ts else None
after_word w (Quoted v ∷ ts) = None

abbrev pub value : Parse (List ℕ)
value [] = None
value (Mark m ∷ ts) = None
value (Word w ∷ ts) = None
value (Quoted v ∷ ts) = Some (v, ts)

-- the values with this one among them: they ascend, and each stands once
abbrev pub put_value : List ℕ → List (List ℕ) → List (List ℕ)
put_value v [] = v ∷ []
put_value v (w ∷ ws) = match_ordering (slice_cmp nat_cmp v w) (v ∷ w ∷ ws) (w ∷ ws) (w ∷ put_value v ws)

-- the values up to the closing brace, put to those before
abbrev pub values : List (List ℕ) → Parse (List (List ℕ))
values vs (Quoted v ∷ Mark Comma ∷ ts) = values (put_value v vs) ts
values vs (Quoted v ∷ Mark CloseBrace ∷ ts) = Some (put_value v vs, ts)
values vs _ = None

-- the values in braces, after the opening one
abbrev pub values_or_none : List Token → Option (List Token) → Option (List (List ℕ) × List Token)
values_or_none ts (Some rest) = Some ([], rest)
values_or_none ts None = values [] ts

abbrev pub set : Parse (List (List ℕ))
set ts = option_and_then (λ inside. values_or_none inside (behind_mark CloseBrace inside)) (behind_mark OpenBrace ts)

-- the operator, where this word is the next token
abbrev pub if_word : List ℕ → Operator → Parse Operator
if_word w found ts = option_map (λ rest. (found, rest)) (after_word w ts)

abbrev pub operator_word : List ℕ → Parse Operator
operator_word w ts =
    if same w (codes "in") then Some (OneOf, ts)
    else if same w (codes "contains") then Some (Contains, ts)
    else if same w (codes "not") then if_word (codes "in") NoneOf ts
    else if same w (codes "starts") then if_word (codes "with") Starts ts
    else if same w (codes "ends") then if_word (codes "with") Ends ts
    else None

abbrev pub operator_of_mark : mark.Mark → Option Operator
operator_of_mark Equal = Some Equals
operator_of_mark Unequal = Some Differs
operator_of_mark _ = None

abbrev pub operator : Parse Operator
operator [] = None
operator (Mark m ∷ ts) = option_map (λ found. (found, ts)) (operator_of_mark m)
operator (Word w ∷ ts) = operator_word w ts
operator (Quoted v ∷ ts) = None

-- the operator says that the key's value isn't there
abbrev pub is_negative : Operator → Bool
is_negative Differs = true
is_negative NoneOf = true
is_negative _ = false

-- the key with what stands after the operator, its negation apart
abbrev pub operand : List ℕ → Operator → Parse Formula
operand key Equals ts = parse_map (is key) (value ts)
operand key Differs ts = parse_map (is key) (value ts)
operand key OneOf ts = parse_map (among key) (set ts)
operand key NoneOf ts = parse_map (among key) (set ts)
operand key Contains ts = parse_map (contains key) (value ts)
operand key Starts ts = parse_map (starts key) (value ts)
operand key Ends ts = parse_map (ends key) (value ts)

-- under a negation, which needs a level that is left
abbrev pub negated : Bool → Option (Formula × List Token) → Option (Formula × List Token)
negated more found = if more then parse_map negation found else None

abbrev pub compared : Bool → List ℕ → Parse Formula
compared more key ts =
    option_and_then (λ p. if is_negative p.0 then negated more (operand key p.0 p.1) else operand key p.0 p.1) (operator ts)

-- after `has(`
abbrev pub has_key : Parse Formula
has_key [] = None
has_key (Mark m ∷ ts) = None
has_key (Word key ∷ ts) = option_map (λ rest. (has key, rest)) (behind_mark Close ts)
has_key (Quoted v ∷ ts) = None

-- a word and a parenthesis, and what follows them
abbrev pub called : List ℕ → Parse Formula
called w ts =
    if same w (codes "all") then option_map (λ rest. (every, rest)) (behind_mark Close ts)
    else if same w (codes "has") then has_key ts
    else None

abbrev pub call_or_key : Bool → List ℕ → List Token → Option (List Token) → Option (Formula × List Token)
call_or_key more w ts (Some rest) = called w rest
call_or_key more w ts None = compared more w ts

abbrev pub closed : Option (Formula × List Token) → Option (Formula × List Token)
closed found = option_and_then (λ p. option_map (λ rest. (p.0, rest)) (behind_mark Close p.1)) found

abbrev pub marked_literal : Parse Formula → Parse Formula → mark.Mark → Parse Formula
marked_literal deeper group Bang ts = parse_map negation (deeper ts)
marked_literal deeper group Open ts = closed (group ts)
marked_literal deeper group _ ts = None

-- A negation, a group or what is asked of one key. `deeper` reads what stands under `!`, and `group` what stands in parentheses.
abbrev pub literal_with : Parse Formula → Parse Formula → Bool → Parse Formula
literal_with deeper group more [] = None
literal_with deeper group more (Mark m ∷ ts) = marked_literal deeper group m ts
literal_with deeper group more (Word w ∷ ts) = call_or_key more w ts (behind_mark Open ts)
literal_with deeper group more (Quoted v ∷ ts) = None

abbrev pub joined_more : Parse Formulas → Formula → List Token → Option (List Token) → Option (Formulas × List Token)
joined_more more f rest None = Some (formula_then f no_formula, rest)
joined_more more f rest (Some ts) = parse_map (formula_then f) (more ts)

-- One or several, joined by this token. The number bounds the turns: the count of the tokens is always enough.
unfoldable pub joined : mark.Mark → Parse Formula → ℕ → Parse Formulas
joined m read zero ts = None
joined m read (suc n) ts = option_and_then (λ p. joined_more (joined m read n) p.0 p.1 (behind_mark m p.1)) (read ts)

-- one stands for itself
abbrev pub one_or : (Formulas → Formula) → Formulas → Formula
one_or make (formula_then f no_formula) = f
one_or make fs = make fs

abbrev pub chain_with : Parse Formula → Parse Formula
chain_with literal ts = parse_map (one_or conjunction) (joined Ands literal (length ts) ts)

abbrev pub choice_with : Parse Formula → Parse Formula
choice_with literal ts = parse_map (one_or disjunction) (joined Bars (chain_with literal) (length ts) ts)

-- with `!` and `(` at most so deep
unfoldable pub literal : ℕ → Parse Formula
literal zero = literal_with parses_nothing parses_nothing false
literal (suc n) = literal_with (literal n) (choice_with (literal n)) true

-- a literal that begins with this mark, after it
abbrev pub after_mark : ℕ → mark.Mark → Parse Formula
after_mark depth m ts = literal depth (Mark m ∷ ts)

abbrev pub if_last : Formula → List Token → Option Formula
if_last f [] = Some f
if_last f (t ∷ ts) = None

abbrev pub whole : List Token → Option Formula
whole [] = Some every
whole (t ∷ ts) = option_and_then (λ p. if_last p.0 p.1) (choice_with (literal 32) (t ∷ ts))

-- the formula that a text is read as, whatever its length
unfoldable pub reading : List ℕ → Option Formula
reading text = option_and_then whole (tokens text)
