-- A phrase of the grammar is read, before whatever follows it.
use Rattle.std.proofs.Common.{◌≡◌, ℕ, zero, suc, ◌-◌, ◌<◌, ◌≤◌, inl, inr, ⊎_elim, List, [], ◌∷◌, length, Some, None, codes, nat_lt, option_and_then, refl, sym, ap, ◌∙◌, subst, arith, lt-ltb}
use Rattle.ipam_select.specs.Formula.{Formula, every, negation, among, conjunction, disjunction, Formulas, no_formula, formula_then}
use Rattle.ipam_select.specs.Reading.{Parse, parse_map, behind_mark, put_value, values, set, compared, call_or_key, closed, joined_more, joined, one_or, chain_with, choice_with, literal, if_last, whole, reading}
use Rattle.ipam_select.specs.Lexing.{tokens}
use Rattle.ipam_select.specs.Grammar as phrase
use Rattle.ipam_select.specs.Grammar.{Comparison, Literal, Chain, Choice, further_values, value_tokens, set_tokens, comparison_tokens, literal_tokens, chain_tokens, choice_tokens, comparison_depth, literal_depth, chain_depth, choice_depth, put_all, ascending, comparison_value, literal_value, chain_value, chain_members, choice_value, choice_members, is_blank_text, Spells, IsPhrase, Reads}
use Rattle.ipam_select.specs.declared.token.Token.{Token}
use Rattle.ipam_select.specs.declared.token.Token.TheVariants.{Word, Quoted, Mark}
use Rattle.ipam_select.specs.declared.token.Mark as mark
use Rattle.ipam_select.specs.declared.token.Mark.TheVariants.{Open, Close, CloseBrace, Ands, Bars}
use Rattle.ipam_select.proofs.Choices.{some_same, and_then_some}
use Rattle.ipam_select.proofs.Literals.{literal-Word, literal-Bang, literal-Open}
use Rattle.ipam_select.proofs.Phrases.{Found, choice_with_read, literal_read, shorter_literal, shorter_chain, shorter_choice, chain_one, choice_one}
use Rattle.ipam_select.proofs.Spelling.{tokens_spelled, tokens_found}

-- ---- comparisons

values_found : (before : List (List ℕ)) (v : List ℕ) (vs : List (List ℕ)) (rest : List Token) → values before (Quoted v ∷ further_values vs (Mark CloseBrace ∷ rest)) ≡ Some (put_all before (v ∷ vs), rest)
values_found before v [] rest = refl
values_found before v (w ∷ vs) rest = values_found (put_value v before) w vs rest

set_found : (vs : List (List ℕ)) (rest : List Token) → set (set_tokens vs rest) ≡ Some (ascending vs, rest)
set_found [] rest = refl
set_found (v ∷ vs) rest = values_found [] v vs rest

comparison_found : (key : List ℕ) (c : Comparison) (n : ℕ) (rest : List Token) → comparison_depth c ≤ n → compared (nat_lt 0 n) key (comparison_tokens c rest) ≡ Some (comparison_value key c, rest)
comparison_found key (phrase.equals v) n rest h = refl
comparison_found key (phrase.differs v) n rest h = rw (lt-ltb 0 n (omega arith)) refl
comparison_found key (phrase.one_of vs) n rest h = ap (parse_map (among key)) (set_found vs rest)
comparison_found key (phrase.none_of vs) n rest h = rw (lt-ltb 0 n (omega arith)) (ap (λ r. parse_map negation (parse_map (among key) r)) (set_found vs rest))
comparison_found key (phrase.holds v) n rest h = refl
comparison_found key (phrase.begins v) n rest h = refl
comparison_found key (phrase.finishes v) n rest h = refl

not_called : (c : Comparison) (rest : List Token) → behind_mark Open (comparison_tokens c rest) ≡ None
not_called (phrase.equals v) rest = refl
not_called (phrase.differs v) rest = refl
not_called (phrase.one_of vs) rest = refl
not_called (phrase.none_of vs) rest = refl
not_called (phrase.holds v) rest = refl
not_called (phrase.begins v) rest = refl
not_called (phrase.finishes v) rest = refl

-- ---- joined members

last_found : (m : mark.Mark) (read : Parse Formula) (k : ℕ) (ts : List Token) (f : Formula) (rest : List Token) → 0 < k → read ts ≡ Some (f, rest) → behind_mark m rest ≡ None → joined m read k ts ≡ Some (formula_then f no_formula, rest)
unfolding joined
last_found m read zero ts f rest h e a = absurd (omega arith)
last_found m read (suc k) ts f rest h e a =
    ap (option_and_then (λ p. joined_more (joined m read k) p.0 p.1 (behind_mark m p.1))) e ∙ ap (joined_more (joined m read k) f rest) a

next_found : (m : mark.Mark) (read : Parse Formula) (k : ℕ) (ts : List Token) (f : Formula) (rest next : List Token) (fs : Formulas) (end : List Token) → read ts ≡ Some (f, rest) → behind_mark m rest ≡ Some next
    → joined m read k next ≡ Some (fs, end) → joined m read (suc k) ts ≡ Some (formula_then f fs, end)
unfolding joined
next_found m read k ts f rest next fs end e a more =
    ap (option_and_then (λ p. joined_more (joined m read k) p.0 p.1 (behind_mark m p.1))) e ∙ ap (joined_more (joined m read k) f rest) a ∙ ap (parse_map (formula_then f)) more

-- what follows doesn't go on with `&&` or `||`
abbrev Ends : List Token → Type 0
Ends rest = (behind_mark Ands rest ≡ None) × (behind_mark Bars rest ≡ None)

chain_whole : (c : Chain) (n : ℕ) (rest : List Token) → joined Ands (literal n) (length (chain_tokens c rest)) (chain_tokens c rest) ≡ Some (chain_members c, rest) → chain_with (literal n) (chain_tokens c rest) ≡ Some (chain_value c, rest)
chain_whole c n rest e = ap (parse_map (one_or conjunction)) e ∙ ap (λ f. Some (f, rest)) (chain_one c)

choice_whole : (c : Choice) (n : ℕ) (rest : List Token) → joined Bars (chain_with (literal n)) (length (choice_tokens c rest)) (choice_tokens c rest) ≡ Some (choice_members c, rest) → choice_with (literal n) (choice_tokens c rest) ≡ Some (choice_value c, rest)
choice_whole c n rest e = ap (parse_map (one_or disjunction)) e ∙ ap (λ f. Some (f, rest)) (choice_one c)

mutual
  literal_found : (l : Literal) (n : ℕ) (rest : List Token) → literal_depth l ≤ n → literal n (literal_tokens l rest) ≡ Some (literal_value l, rest)
  literal_found (phrase.refused l) n rest h =
      literal-Bang n (literal_tokens l rest) (omega arith) ∙ ap (parse_map negation) (literal_found l (n - 1) rest (omega arith))
  literal_found phrase.everything n rest h = literal-Word n (codes "all") (Mark Open ∷ Mark Close ∷ rest)
  literal_found (phrase.present key) n rest h = literal-Word n (codes "has") (Mark Open ∷ Word key ∷ Mark Close ∷ rest)
  literal_found (phrase.compared key c) n rest h =
      literal-Word n key (comparison_tokens c rest) ∙ ap (call_or_key (nat_lt 0 n) key (comparison_tokens c rest)) (not_called c rest) ∙ comparison_found key c n rest h
  literal_found (phrase.grouped c) n rest h =
      literal-Open n (choice_tokens c (Mark Close ∷ rest)) (omega arith) ∙ ap closed (choice_whole c (n - 1) (Mark Close ∷ rest)
      (choice_joined c (n - 1) (length (choice_tokens c (Mark Close ∷ rest))) (Mark Close ∷ rest) (omega arith) (refl, refl) (omega arith)))

  chain_joined : (c : Chain) (n k : ℕ) (rest : List Token) → chain_depth c ≤ n → behind_mark Ands rest ≡ None → length (chain_tokens c rest) ≤ k → joined Ands (literal n) k (chain_tokens c rest) ≡ Some (chain_members c, rest)
  chain_joined (phrase.only l) n k rest h a long =
      last_found Ands (literal n) k (literal_tokens l rest) (literal_value l) rest (omega (arith, shorter_literal l rest)) (literal_found l n rest h) a
  chain_joined (phrase.both l c) n zero rest h a long = absurd (omega (arith, shorter_literal l (Mark Ands ∷ chain_tokens c rest)))
  chain_joined (phrase.both l c) n (suc k) rest h a long =
      next_found Ands (literal n) k (literal_tokens l (Mark Ands ∷ chain_tokens c rest)) (literal_value l) (Mark Ands ∷ chain_tokens c rest) (chain_tokens c rest) (chain_members c) rest
      (literal_found l n (Mark Ands ∷ chain_tokens c rest) (omega arith)) refl
      (chain_joined c n k rest (omega arith) a (omega (arith, shorter_literal l (Mark Ands ∷ chain_tokens c rest))))

  choice_joined : (c : Choice) (n k : ℕ) (rest : List Token) → choice_depth c ≤ n → Ends rest → length (choice_tokens c rest) ≤ k → joined Bars (chain_with (literal n)) k (choice_tokens c rest) ≡ Some (choice_members c, rest)
  choice_joined (phrase.alone c) n k rest h a long =
      last_found Bars (chain_with (literal n)) k (chain_tokens c rest) (chain_value c) rest (omega (arith, shorter_chain c rest)) (chain_whole c n rest (chain_joined c n (length (chain_tokens c rest)) rest h a.0 (omega arith))) a.1
  choice_joined (phrase.either c d) n zero rest h a long = absurd (omega (arith, shorter_chain c (Mark Bars ∷ choice_tokens d rest)))
  choice_joined (phrase.either c d) n (suc k) rest h a long =
      next_found Bars (chain_with (literal n)) k (chain_tokens c (Mark Bars ∷ choice_tokens d rest)) (chain_value c) (Mark Bars ∷ choice_tokens d rest) (choice_tokens d rest) (choice_members d) rest
      (chain_whole c n (Mark Bars ∷ choice_tokens d rest) (chain_joined c n (length (chain_tokens c (Mark Bars ∷ choice_tokens d rest))) (Mark Bars ∷ choice_tokens d rest) (omega arith) refl (omega arith))) refl
      (choice_joined d n k rest (omega arith) a (omega (arith, shorter_chain c (Mark Bars ∷ choice_tokens d rest))))

choice_found : (c : Choice) (n : ℕ) (rest : List Token) → choice_depth c ≤ n → Ends rest → choice_with (literal n) (choice_tokens c rest) ≡ Some (choice_value c, rest)
choice_found c n rest h a = choice_whole c n rest (choice_joined c n (length (choice_tokens c rest)) rest h a (omega arith))

-- ---- the whole text

if_last_is : (f : Formula) (rest : List Token) (g : Formula) → if_last f rest ≡ Some g → (rest ≡ []) × (f ≡ g)
if_last_is f [] g e = (refl, some_same f g e)
if_last_is f (t ∷ rest) g e = absurd (cc)

whole_read : (text : List ℕ) (ts : List Token) (f : Formula) → Spells text ts → whole ts ≡ Some f → Reads text f
whole_read text [] f s e = inl (s, sym (some_same every f e))
whole_read text (t ∷ ts) f s e =
    let found = and_then_some (λ (p : Found). if_last p.0 p.1) (choice_with (literal 32) (t ∷ ts)) f e in
    let last = if_last_is found.0.0 found.0.1 f found.2 in
    let c = choice_with_read 32 (literal 32) (literal_read 32) (t ∷ ts) found.0 found.1 in
    inr (record {
      phrase = c.phrase;
      spelled = subst (Spells text) (c.tokens ∙ ap (choice_tokens c.phrase) last.0) s;
      depth = c.within;
      value = c.value ∙ last.1;
    })

-- what is read is a reading of the text
pub reading_sound : (text : List ℕ) (f : Formula) → reading text ≡ Some f → Reads text f
unfolding reading
reading_sound text f e =
    let found = and_then_some whole (tokens text) f e in
    whole_read text found.0 f (tokens_spelled text found.0 found.1) found.2

some_tokens : (ts : List Token) (f : Formula) → 0 < length ts → choice_with (literal 32) ts ≡ Some (f, []) → whole ts ≡ Some f
some_tokens [] f h e = absurd (omega arith)
some_tokens (t ∷ ts) f h e = ap (option_and_then (λ (p : Found). if_last p.0 p.1)) e

-- each reading of the text is what is read
pub reading_complete : (text : List ℕ) (f : Formula) → Reads text f → reading text ≡ Some f
unfolding reading
reading_complete text f h =
    ⊎_elim (λ blank. ap (option_and_then whole) (tokens_found text [] blank.0) ∙ ap Some (sym blank.1))
    (λ is. ap (option_and_then whole) (tokens_found text (choice_tokens is.phrase []) is.spelled)
    ∙ some_tokens (choice_tokens is.phrase []) (choice_value is.phrase) (omega (arith, shorter_choice is.phrase [])) (choice_found is.phrase 32 [] is.depth (refl, refl))
    ∙ ap Some is.value) h
