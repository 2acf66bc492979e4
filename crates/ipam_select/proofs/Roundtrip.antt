-- What is printed of a formed formula is read as it, and what is read is formed.
use Rattle.std.proofs.Common.{◌≡◌, ℕ, Bool, true, false, ◌&&◌, ◌||◌, ◌⊎◌, inl, inr, List, [], ◌∷◌, ◌++◌, codes, if◌then◌else◌, refl, sym, ap, ◌∙◌, subst, append_assoc, Equal}
use Rattle.std.specs.List.{list_all}
use Rattle.ipam_select.specs.Formula.{Formula, every, has, is, negation, among, contains, starts, ends, conjunction, disjunction, Formulas, no_formula, formula_then}
use Rattle.ipam_select.specs.Words.{is_key_byte, is_key, is_value, lacks, begins}
use Rattle.ipam_select.specs.Grammar as phrase
use Rattle.ipam_select.specs.Grammar.{Comparison, Literal, Chain, Choice, further_values, value_tokens, set_tokens, comparison_tokens, literal_tokens, chain_tokens, choice_tokens, comparison_depth, literal_depth, chain_depth, choice_depth, put_all, ascending, comparison_value, literal_value, chain_value, chain_members, choice_value, choice_members, mark_spelling, IsSpelling, EndsAt, is_blank_text, Spells}
use Rattle.ipam_select.specs.Printing.{quote_of, quoted_text, values_text}
use Rattle.ipam_select.specs.Sound.{is_quotable, fits_quotes}
use Rattle.ipam_select.specs.declared.token.Token.{Token}
use Rattle.ipam_select.specs.declared.token.Token.TheVariants.{Word, Quoted, Mark}
use Rattle.ipam_select.specs.declared.token.Mark.TheVariants.{Open, Close, OpenBrace, CloseBrace, Comma, Equal}
use Rattle.ipam_select.proofs.Choices.{and_true}

-- ---- the phrase that is printed

abbrev mutual
  -- as a literal: in parentheses where it is an And or an Or
  pub literal_of : Formula → Literal
  literal_of every = phrase.everything
  literal_of (has key) = phrase.present key
  literal_of (is key v) = phrase.compared key (phrase.equals v)
  literal_of (negation f) = phrase.refused (literal_of f)
  literal_of (among key vs) = phrase.compared key (phrase.one_of vs)
  literal_of (contains key v) = phrase.compared key (phrase.holds v)
  literal_of (starts key v) = phrase.compared key (phrase.begins v)
  literal_of (ends key v) = phrase.compared key (phrase.finishes v)
  literal_of (conjunction fs) = phrase.grouped (phrase.alone (chain_of fs))
  literal_of (disjunction fs) = phrase.grouped (choice_of fs)

  -- the members of an And; none is no formula that is read
  pub chain_of : Formulas → Chain
  chain_of no_formula = phrase.only phrase.everything
  chain_of (formula_then f no_formula) = phrase.only (literal_of f)
  chain_of (formula_then f (formula_then g fs)) = phrase.both (literal_of f) (chain_of (formula_then g fs))

  -- a member of an Or: in parentheses where it is an Or
  pub member_of : Formula → Chain
  member_of (conjunction fs) = chain_of fs
  member_of every = phrase.only phrase.everything
  member_of (has key) = phrase.only (phrase.present key)
  member_of (is key v) = phrase.only (phrase.compared key (phrase.equals v))
  member_of (negation f) = phrase.only (phrase.refused (literal_of f))
  member_of (among key vs) = phrase.only (phrase.compared key (phrase.one_of vs))
  member_of (contains key v) = phrase.only (phrase.compared key (phrase.holds v))
  member_of (starts key v) = phrase.only (phrase.compared key (phrase.begins v))
  member_of (ends key v) = phrase.only (phrase.compared key (phrase.finishes v))
  member_of (disjunction fs) = phrase.only (phrase.grouped (choice_of fs))

  pub choice_of : Formulas → Choice
  choice_of no_formula = phrase.alone (phrase.only phrase.everything)
  choice_of (formula_then f no_formula) = phrase.alone (member_of f)
  choice_of (formula_then f (formula_then g fs)) = phrase.either (member_of f) (choice_of (formula_then g fs))

-- ---- tokens put before a text

pub blank_before : (text : List ℕ) (ts : List Token) → Spells text ts → Spells (32 ∷ text) ts
blank_before text [] h = h
blank_before text (t ∷ ts) h =
    let (blanks, bytes, rest, whole, blank, spelling, stop, others) = h in
    (32 ∷ blanks, bytes, rest, ap (λ xs. 32 ∷ xs) whole, blank, spelling, stop, others)

pub token_then : (t : Token) (bytes text : List ℕ) (ts : List Token) → IsSpelling t bytes → EndsAt t text → Spells text ts → Spells (bytes ++ text) (t ∷ ts)
token_then t bytes text ts h e s = ([], bytes, text, refl, refl, h, e, s)

word_then : (w text : List ℕ) (ts : List Token) → is_key w ≡ true → begins is_key_byte text ≡ false → Spells text ts → Spells (w ++ text) (Word w ∷ ts)
word_then w text ts k e s = token_then (Word w) w text ts (k, refl) e s

quotes_fit-by : (v : List ℕ) (b : Bool) → lacks 39 v ≡ b → fits_quotes v ≡ true → ((quote_of v ≡ 39) ⊎ (quote_of v ≡ 34)) × (lacks (quote_of v) v ≡ true)
quotes_fit-by v true e h =
    let q : quote_of v ≡ 39 = ap (λ (c : Bool). if c then 39 else 34) e in (inl q, ap (λ k. lacks k v) q ∙ e)
quotes_fit-by v false e h =
    let q : quote_of v ≡ 34 = ap (λ (c : Bool). if c then 39 else 34) e in
    let other : lacks 34 v ≡ true = sym (ap (λ (c : Bool). c || lacks 34 v) e) ∙ h in (inr q, ap (λ k. lacks k v) q ∙ other)

quotes_fit : (v : List ℕ) → fits_quotes v ≡ true → ((quote_of v ≡ 39) ⊎ (quote_of v ≡ 34)) × (lacks (quote_of v) v ≡ true)
quotes_fit v h = quotes_fit-by v (lacks 39 v) refl h

quoted_then : (v text : List ℕ) (ts : List Token) → is_quotable v ≡ true → Spells text ts → Spells (quoted_text v ++ text) (Quoted v ∷ ts)
quoted_then v text ts q s =
    let both = and_true (is_value v) (fits_quotes v) q in
    let fit = quotes_fit v both.1 in
    token_then (Quoted v) (quoted_text v) text ts (both.0, quote_of v, fit.0, fit.1, refl) tt s

-- an operator in the printed form, with its blanks, and the tokens that it is
abbrev pub IsOperator : List ℕ → (List Token → List Token) → Type 0
IsOperator op toks = ((text : List ℕ) (us : List Token) → Spells text us → Spells (op ++ text) (toks us)) × ((text : List ℕ) → begins is_key_byte (op ++ text) ≡ false)

pub compared_spelled : (key op v rest : List ℕ) (toks : List Token → List Token) (ts : List Token) → (is_key key && is_quotable v) ≡ true → IsOperator op toks → Spells rest ts
    → Spells ((key ++ (op ++ quoted_text v)) ++ rest) (Word key ∷ toks (Quoted v ∷ ts))
compared_spelled key op v rest toks ts h o s =
    let both = and_true (is_key key) (is_quotable v) h in
    let whole : (key ++ (op ++ quoted_text v)) ++ rest ≡ key ++ (op ++ (quoted_text v ++ rest)) = append_assoc key (op ++ quoted_text v) rest ∙ ap (λ xs. key ++ xs) (append_assoc op (quoted_text v) rest) in
    subst (λ xs. Spells xs (Word key ∷ toks (Quoted v ∷ ts))) (sym whole)
    (word_then key (op ++ (quoted_text v ++ rest)) (toks (Quoted v ∷ ts)) both.0 (o.1 (quoted_text v ++ rest)) (o.0 (quoted_text v ++ rest) (Quoted v ∷ ts) (quoted_then v rest ts both.1 s)))

pub equals_operator : IsOperator (codes " == ") (λ us. Mark Equal ∷ us)
equals_operator = (λ text us s. blank_before (61 ∷ 61 ∷ 32 ∷ text) (Mark Equal ∷ us) (token_then (Mark Equal) (codes "==") (32 ∷ text) us refl tt (blank_before text us s)), λ text. refl)

one_word_operator : (w text : List ℕ) (us : List Token) → is_key w ≡ true → Spells text us → Spells (32 ∷ (w ++ (32 ∷ text))) (Word w ∷ us)
one_word_operator w text us k s = blank_before (w ++ (32 ∷ text)) (Word w ∷ us) (word_then w (32 ∷ text) us k refl (blank_before text us s))

pub contains_operator : IsOperator (codes " contains ") (λ us. Word (codes "contains") ∷ us)
contains_operator = (λ text us s. one_word_operator (codes "contains") text us refl s, λ text. refl)

two_word_operator : (w text : List ℕ) (us : List Token) → is_key w ≡ true → Spells text us → Spells (32 ∷ (w ++ (32 ∷ (codes "with" ++ (32 ∷ text))))) (Word w ∷ Word (codes "with") ∷ us)
two_word_operator w text us k s =
    blank_before (w ++ (32 ∷ (codes "with" ++ (32 ∷ text)))) (Word w ∷ Word (codes "with") ∷ us)
    (word_then w (32 ∷ (codes "with" ++ (32 ∷ text))) (Word (codes "with") ∷ us) k refl (one_word_operator (codes "with") text us refl s))

pub starts_operator : IsOperator (codes " starts with ") (λ us. Word (codes "starts") ∷ Word (codes "with") ∷ us)
starts_operator = (λ text us s. two_word_operator (codes "starts") text us refl s, λ text. refl)

pub ends_operator : IsOperator (codes " ends with ") (λ us. Word (codes "ends") ∷ Word (codes "with") ∷ us)
ends_operator = (λ text us s. two_word_operator (codes "ends") text us refl s, λ text. refl)

further_spelled : (vs : List (List ℕ)) (text : List ℕ) (us : List Token) → list_all is_quotable vs ≡ true → Spells text us → Spells (values_text false vs ++ text) (further_values vs us)
further_spelled [] text us h s = s
further_spelled (v ∷ vs) text us h s =
    let both = and_true (is_quotable v) (list_all is_quotable vs) h in
    let rest = values_text false vs ++ text in
    let whole : (quoted_text v ++ values_text false vs) ++ text ≡ quoted_text v ++ rest = append_assoc (quoted_text v) (values_text false vs) text in
    token_then (Mark Comma) (codes ",") (32 ∷ ((quoted_text v ++ values_text false vs) ++ text)) (Quoted v ∷ further_values vs us) refl tt
    (blank_before ((quoted_text v ++ values_text false vs) ++ text) (Quoted v ∷ further_values vs us)
    (subst (λ xs. Spells xs (Quoted v ∷ further_values vs us)) (sym whole) (quoted_then v rest (further_values vs us) both.0 (further_spelled vs text us both.1 s))))

values_spelled : (vs : List (List ℕ)) (text : List ℕ) (us : List Token) → list_all is_quotable vs ≡ true → Spells text us → Spells (values_text true vs ++ text) (value_tokens vs us)
values_spelled [] text us h s = s
values_spelled (v ∷ vs) text us h s =
    let both = and_true (is_quotable v) (list_all is_quotable vs) h in
    let rest = values_text false vs ++ text in
    subst (λ xs. Spells xs (Quoted v ∷ further_values vs us)) (sym (append_assoc (quoted_text v) (values_text false vs) text))
    (quoted_then v rest (further_values vs us) both.0 (further_spelled vs text us both.1 s))

pub among_spelled : (key : List ℕ) (vs : List (List ℕ)) (rest : List ℕ) (ts : List Token) → is_key key ≡ true → list_all is_quotable vs ≡ true → Spells rest ts
    → Spells ((key ++ (codes " in {" ++ (values_text true vs ++ codes "}"))) ++ rest) (Word key ∷ Word (codes "in") ∷ set_tokens vs ts)
among_spelled key vs rest ts k q s =
    let inner = values_text true vs ++ (codes "}" ++ rest) in
    let whole : (key ++ (codes " in {" ++ (values_text true vs ++ codes "}"))) ++ rest ≡ key ++ (codes " in {" ++ inner) =
    append_assoc key (codes " in {" ++ (values_text true vs ++ codes "}")) rest ∙ ap (λ xs. key ++ (codes " in {" ++ xs)) (append_assoc (values_text true vs) (codes "}") rest) in
    let close : Spells (codes "}" ++ rest) (Mark CloseBrace ∷ ts) = token_then (Mark CloseBrace) (codes "}") rest ts refl tt s in
    let open_ : Spells (123 ∷ inner) (set_tokens vs ts) = token_then (Mark OpenBrace) (codes "{") inner (value_tokens vs (Mark CloseBrace ∷ ts)) refl tt (values_spelled vs (codes "}" ++ rest) (Mark CloseBrace ∷ ts) q close) in
    subst (λ xs. Spells xs (Word key ∷ Word (codes "in") ∷ set_tokens vs ts)) (sym whole)
    (word_then key (codes " in {" ++ inner) (Word (codes "in") ∷ set_tokens vs ts) k refl (one_word_operator (codes "in") (123 ∷ inner) (set_tokens vs ts) refl open_))

pub has_spelled : (key rest : List ℕ) (ts : List Token) → is_key key ≡ true → Spells rest ts → Spells ((codes "has(" ++ (key ++ codes ")")) ++ rest) (literal_tokens (phrase.present key) ts)
has_spelled key rest ts k s =
    let close : Spells (codes ")" ++ rest) (Mark Close ∷ ts) = token_then (Mark Close) (codes ")") rest ts refl tt s in
    let inner : Spells ((key ++ codes ")") ++ rest) (Word key ∷ Mark Close ∷ ts) = subst (λ xs. Spells xs (Word key ∷ Mark Close ∷ ts)) (sym (append_assoc key (codes ")") rest)) (word_then key (codes ")" ++ rest) (Mark Close ∷ ts) k refl close) in
    word_then (codes "has") (40 ∷ ((key ++ codes ")") ++ rest)) (Mark Open ∷ Word key ∷ Mark Close ∷ ts) refl refl
    (token_then (Mark Open) (codes "(") ((key ++ codes ")") ++ rest) (Word key ∷ Mark Close ∷ ts) refl tt inner)

pub everything_spelled : (rest : List ℕ) (ts : List Token) → Spells rest ts → Spells (codes "all()" ++ rest) (literal_tokens phrase.everything ts)
everything_spelled rest ts s =
    word_then (codes "all") (codes "()" ++ rest) (Mark Open ∷ Mark Close ∷ ts) refl refl
    (token_then (Mark Open) (codes "(") (codes ")" ++ rest) (Mark Close ∷ ts) refl tt (token_then (Mark Close) (codes ")") rest ts refl tt s))

pub grouped_spelled : (text rest : List ℕ) (toks : List Token → List Token) (ts : List Token) → ((more : List ℕ) (us : List Token) → Spells more us → Spells (text ++ more) (toks us)) → Spells rest ts
    → Spells ((codes "(" ++ (text ++ codes ")")) ++ rest) (Mark Open ∷ toks (Mark Close ∷ ts))
grouped_spelled text rest toks ts inside s =
    let close : Spells (codes ")" ++ rest) (Mark Close ∷ ts) = token_then (Mark Close) (codes ")") rest ts refl tt s in
    token_then (Mark Open) (codes "(") ((text ++ codes ")") ++ rest) (toks (Mark Close ∷ ts)) refl tt
    (subst (λ xs. Spells xs (toks (Mark Close ∷ ts))) (sym (append_assoc text (codes ")") rest)) (inside (codes ")" ++ rest) (Mark Close ∷ ts) close))
