-- What a reader has read is a phrase of the grammar.
use Rattle.std.proofs.Common.{◌≡◌, ℕ, zero, suc, ◌<◌, ◌≤◌, Bool, true, false, ⊎_elim, List, [], ◌∷◌, length, Option, Some, None, if◌then◌else◌, codes, nat_lt, option_map, refl, sym, ap, ap₂, ◌∙◌, subst, arith, ltb-true, lt-ltb}
use Rattle.ipam_select.specs.Formula.{Formula, every, has, is, negation, among, contains, starts, ends, conjunction, disjunction, Formulas, no_formula, formula_then}
use Rattle.ipam_select.specs.Admitting.{same}
use Rattle.ipam_select.specs.Reading.{Parse, parse_map, same_mark, behind_mark, after_word, value, put_value, values, values_or_none, set, if_word, operator_word, operator_of_mark, operator, is_negative, operand, negated, compared, has_key, called, call_or_key, closed, joined_more, joined, one_or, chain_with, choice_with, literal}
use Rattle.ipam_select.specs.Grammar as phrase
use Rattle.ipam_select.specs.Grammar.{Comparison, Literal, Chain, Choice, further_values, value_tokens, set_tokens, comparison_tokens, literal_tokens, chain_tokens, choice_tokens, comparison_depth, literal_depth, chain_depth, choice_depth, put_all, ascending, comparison_value, literal_value, chain_value, chain_members, choice_value, choice_members}
use Rattle.ipam_select.specs.declared.token.Token.{Token}
use Rattle.ipam_select.specs.declared.token.Token.TheVariants.{Word, Quoted, Mark}
use Rattle.ipam_select.specs.declared.token.Mark as mark
use Rattle.ipam_select.specs.declared.token.Mark.TheVariants.{Open, Close, OpenBrace, CloseBrace, Comma, Equal, Unequal, Bang, Ands, Bars}
use Rattle.ipam_select.specs.declared.token.Operator.{Operator}
use Rattle.ipam_select.specs.declared.token.Operator.TheVariants.{Equals, Differs, OneOf, NoneOf, Contains, Starts, Ends}
use Rattle.std.specs.Cmp.Lexicographic.{same_text}
use Rattle.ipam_select.proofs.Choices.{if_cases, if_some, none_is_not_some, and_then_some, map_some}

-- ---- steps

pub some_same : {A : Type 0} (x y : A) → Some x ≡ Some y → x ≡ y
some_same x y e = cc

same_mark_is : (m n : mark.Mark) → same_mark m n ≡ true → m ≡ n
same_mark_is Open Open e = refl
same_mark_is Close Close e = refl
same_mark_is OpenBrace OpenBrace e = refl
same_mark_is CloseBrace CloseBrace e = refl
same_mark_is Comma Comma e = refl
same_mark_is Equal Equal e = refl
same_mark_is Unequal Unequal e = refl
same_mark_is Bang Bang e = refl
same_mark_is Ands Ands e = refl
same_mark_is Bars Bars e = refl
same_mark_is _ _ e = absurd (cc)

pub after_is : (m : mark.Mark) (ts rest : List Token) → behind_mark m ts ≡ Some rest → ts ≡ Mark m ∷ rest
after_is m [] rest e = absurd (cc)
after_is m (Word w ∷ ts) rest e = absurd (cc)
after_is m (Quoted v ∷ ts) rest e = absurd (cc)
after_is m (Mark found ∷ ts) rest e =
    let some = if_some (same_mark found m) ts rest e in
    ap₂ (λ (k : mark.Mark) (more : List Token). Mark k ∷ more) (same_mark_is found m some.0) some.1

pub after_word_is : (w : List ℕ) (ts rest : List Token) → after_word w ts ≡ Some rest → ts ≡ Word w ∷ rest
after_word_is w [] rest e = absurd (cc)
after_word_is w (Mark m ∷ ts) rest e = absurd (cc)
after_word_is w (Quoted v ∷ ts) rest e = absurd (cc)
after_word_is w (Word found ∷ ts) rest e =
    let some = if_some (same found w) ts rest e in
    ap₂ (λ (k : List ℕ) (more : List Token). Word k ∷ more) (same_text found w (sym some.0)) some.1

pub value_is : (ts : List Token) (v : List ℕ) (rest : List Token) → value ts ≡ Some (v, rest) → ts ≡ Quoted v ∷ rest
value_is [] v rest e = absurd (cc)
value_is (Mark m ∷ ts) v rest e = absurd (cc)
value_is (Word w ∷ ts) v rest e = absurd (cc)
value_is (Quoted w ∷ ts) v rest e = ap (λ (p : List ℕ × List Token). Quoted p.0 ∷ p.1) (some_same (w, ts) (v, rest) e)

-- one value more, or the last one
pub values_more : (vs : List (List ℕ)) (ts : List Token) (v : List ℕ) (rest more : List Token) → value ts ≡ Some (v, rest) → behind_mark Comma rest ≡ Some more → values vs ts ≡ values (put_value v vs) more
values_more vs ts v rest more e f = ap (values vs) (value_is ts v rest e ∙ ap (λ xs. Quoted v ∷ xs) (after_is Comma rest more f))

pub values_end : (vs : List (List ℕ)) (ts : List Token) (v : List ℕ) (rest more : List Token) → value ts ≡ Some (v, rest) → behind_mark CloseBrace rest ≡ Some more → values vs ts ≡ Some (put_value v vs, more)
values_end vs ts v rest more e f = ap (values vs) (value_is ts v rest e ∙ ap (λ xs. Quoted v ∷ xs) (after_is CloseBrace rest more f))

no_more : (vs : List (List ℕ)) (v : List ℕ) (rest : List Token) → behind_mark CloseBrace rest ≡ None → behind_mark Comma rest ≡ None → values vs (Quoted v ∷ rest) ≡ None
no_more vs v [] e f = refl
no_more vs v (Word w ∷ rest) e f = refl
no_more vs v (Quoted w ∷ rest) e f = refl
no_more vs v (Mark Comma ∷ rest) e f = absurd (cc)
no_more vs v (Mark CloseBrace ∷ rest) e f = absurd (cc)
no_more vs v (Mark _ ∷ rest) e f = refl

pub values_stop : (vs : List (List ℕ)) (ts : List Token) (v : List ℕ) (rest : List Token) → value ts ≡ Some (v, rest) → behind_mark CloseBrace rest ≡ None → behind_mark Comma rest ≡ None → values vs ts ≡ None
values_stop vs ts v rest e f g = ap (values vs) (value_is ts v rest e) ∙ no_more vs v rest f g

pub values_none : (vs : List (List ℕ)) (ts : List Token) → value ts ≡ None → values vs ts ≡ None
values_none vs [] e = refl
values_none vs (Word w ∷ ts) e = refl
values_none vs (Mark m ∷ ts) e = refl
values_none vs (Quoted v ∷ ts) e = absurd (cc)

-- ---- values

-- one value or more, put to those before
pub record AreValues (before : List (List ℕ)) (ts : List Token) (vs : List (List ℕ)) (rest : List Token) : Type 0 where
  pub first : List ℕ
  pub further : List (List ℕ)
  pub tokens : ts ≡ Quoted first ∷ further_values further (Mark CloseBrace ∷ rest)
  pub value : put_all before (first ∷ further) ≡ vs

values_read : (before : List (List ℕ)) (ts : List Token) (vs : List (List ℕ)) (rest : List Token) → values before ts ≡ Some (vs, rest) → AreValues before ts vs rest
values_read before (Quoted v ∷ Mark Comma ∷ ts) vs rest e =
    let more = values_read (put_value v before) ts vs rest e in
    record {
      first = v;
      further = more.first ∷ more.further;
      tokens = ap (λ xs. Quoted v ∷ Mark Comma ∷ xs) more.tokens;
      value = more.value;
    }
values_read before (Quoted v ∷ Mark CloseBrace ∷ ts) vs rest e =
    let same = some_same (put_value v before, ts) (vs, rest) e in
    record {
      first = v;
      further = [];
      tokens = ap (λ (p : List (List ℕ) × List Token). Quoted v ∷ Mark CloseBrace ∷ p.1) same;
      value = ap (λ (p : List (List ℕ) × List Token). p.0) same;
    }
values_read before _ vs rest e = absurd (cc)

pub record IsSet (ts : List Token) (vs : List (List ℕ)) (rest : List Token) : Type 0 where
  pub listed : List (List ℕ)
  pub tokens : ts ≡ set_tokens listed rest
  pub value : ascending listed ≡ vs

set_read_after : (inside : List Token) (o : Option (List Token)) (vs : List (List ℕ)) (rest : List Token) → behind_mark CloseBrace inside ≡ o → values_or_none inside o ≡ Some (vs, rest) → IsSet (Mark OpenBrace ∷ inside) vs rest
set_read_after inside None vs rest f e =
    let found = values_read [] inside vs rest e in
    record { listed = found.first ∷ found.further; tokens = ap (λ xs. Mark OpenBrace ∷ xs) found.tokens; value = found.value }
set_read_after inside (Some more) vs rest f e =
    let same = some_same {A = List (List ℕ) × List Token} ([], more) (vs, rest) e in
    record {
      listed = [];
      tokens = ap (λ xs. Mark OpenBrace ∷ xs) (after_is CloseBrace inside more f) ∙ ap (λ (p : List (List ℕ) × List Token). Mark OpenBrace ∷ Mark CloseBrace ∷ p.1) same;
      value = ap (λ (p : List (List ℕ) × List Token). p.0) same;
    }

pub set_read : (ts : List Token) (vs : List (List ℕ)) (rest : List Token) → set ts ≡ Some (vs, rest) → IsSet ts vs rest
set_read ts vs rest e =
    let found = and_then_some (λ inside. values_or_none inside (behind_mark CloseBrace inside)) (behind_mark OpenBrace ts) (vs, rest) e in
    subst (λ xs. IsSet xs vs rest) (sym (after_is OpenBrace ts found.0 found.1)) (set_read_after found.0 (behind_mark CloseBrace found.0) vs rest refl found.2)

-- ---- comparisons

abbrev pub operator_tokens : Operator → List Token → List Token
operator_tokens Equals rest = Mark Equal ∷ rest
operator_tokens Differs rest = Mark Unequal ∷ rest
operator_tokens OneOf rest = Word (codes "in") ∷ rest
operator_tokens NoneOf rest = Word (codes "not") ∷ Word (codes "in") ∷ rest
operator_tokens Contains rest = Word (codes "contains") ∷ rest
operator_tokens Starts rest = Word (codes "starts") ∷ Word (codes "with") ∷ rest
operator_tokens Ends rest = Word (codes "ends") ∷ Word (codes "with") ∷ rest

abbrev FoundOperator : Type 0
FoundOperator = Operator × List Token

mark_read : (m : mark.Mark) (ts : List Token) (p : FoundOperator) (o : Operator) → operator_of_mark m ≡ Some o → (o, ts) ≡ p → Mark m ∷ ts ≡ operator_tokens p.0 p.1
mark_read Equal ts p o e f = ap (λ (k : Operator). operator_tokens k ts) (some_same Equals o e) ∙ ap (λ (q : FoundOperator). operator_tokens q.0 q.1) f
mark_read Unequal ts p o e f = ap (λ (k : Operator). operator_tokens k ts) (some_same Differs o e) ∙ ap (λ (q : FoundOperator). operator_tokens q.0 q.1) f
mark_read _ ts p o e f = absurd (cc)

same_word : (w v : List ℕ) (ts : List Token) → same w v ≡ true → Word w ∷ ts ≡ Word v ∷ ts
same_word w v ts e = ap (λ x. Word x ∷ ts) (same_text w v (sym e))

-- a word and the operator that it is
one_word : (w v : List ℕ) (ts : List Token) (k : Operator) (p : FoundOperator) → same w v ≡ true → Some (k, ts) ≡ Some p → ((rest : List Token) → operator_tokens k rest ≡ Word v ∷ rest) → Word w ∷ ts ≡ operator_tokens p.0 p.1
one_word w v ts k p e f are = same_word w v ts e ∙ sym (are ts) ∙ ap (λ (q : FoundOperator). operator_tokens q.0 q.1) (some_same (k, ts) p f)

two_words : (w v u : List ℕ) (ts : List Token) (k : Operator) (p : FoundOperator) → same w v ≡ true → if_word u k ts ≡ Some p → ((rest : List Token) → operator_tokens k rest ≡ Word v ∷ Word u ∷ rest) → Word w ∷ ts ≡ operator_tokens p.0 p.1
two_words w v u ts k p e f are =
    let found = map_some (λ rest. (k, rest)) (after_word u ts) p f in
    same_word w v ts e ∙ ap (λ xs. Word v ∷ xs) (after_word_is u ts found.0 found.1) ∙ sym (are found.0) ∙ ap (λ (q : FoundOperator). operator_tokens q.0 q.1) found.2

word_read : (w : List ℕ) (ts : List Token) (p : FoundOperator) → operator_word w ts ≡ Some p → Word w ∷ ts ≡ operator_tokens p.0 p.1
word_read w ts p e =
    ⊎_elim (λ h. one_word w (codes "in") ts OneOf p h.0 h.1 (λ rest. refl)) (λ h1.
    ⊎_elim (λ h. one_word w (codes "contains") ts Contains p h.0 h.1 (λ rest. refl)) (λ h2.
    ⊎_elim (λ h. two_words w (codes "not") (codes "in") ts NoneOf p h.0 h.1 (λ rest. refl)) (λ h3.
    ⊎_elim (λ h. two_words w (codes "starts") (codes "with") ts Starts p h.0 h.1 (λ rest. refl)) (λ h4.
    ⊎_elim (λ h. two_words w (codes "ends") (codes "with") ts Ends p h.0 h.1 (λ rest. refl)) (λ h5. absurd (none_is_not_some p h5.1))
    (if_cases (same w (codes "ends")) _ _ (Some p) h4.1)) (if_cases (same w (codes "starts")) _ _ (Some p) h3.1)) (if_cases (same w (codes "not")) _ _ (Some p) h2.1))
    (if_cases (same w (codes "contains")) _ _ (Some p) h1.1)) (if_cases (same w (codes "in")) _ _ (Some p) e)

operator_read : (ts : List Token) (p : FoundOperator) → operator ts ≡ Some p → ts ≡ operator_tokens p.0 p.1
operator_read [] p e = absurd (cc)
operator_read (Quoted v ∷ ts) p e = absurd (cc)
operator_read (Word w ∷ ts) p e = word_read w ts p e
operator_read (Mark m ∷ ts) p e =
    let found = map_some (λ k. (k, ts)) (operator_of_mark m) p e in
    mark_read m ts p found.0 found.1 found.2

abbrev pub Found : Type 0
Found = Formula × List Token

-- a comparison of the key, with so many `!` at most
pub record IsCompared (key : List ℕ) (ts : List Token) (found : Found) (depth : ℕ) : Type 0 where
  pub phrase : Comparison
  pub tokens : ts ≡ comparison_tokens phrase found.1
  pub value : comparison_value key phrase ≡ found.0
  pub depth_is : comparison_depth phrase ≡ depth

-- one value after an operator
with_value : (key : List ℕ) (make : List ℕ → Formula) (c : List ℕ → Comparison) (before : List Token → List Token) (ts : List Token) (found : Found) (d : ℕ)
    → parse_map make (value ts) ≡ Some found → ((v : List ℕ) (rest : List Token) → comparison_tokens (c v) rest ≡ before (Quoted v ∷ rest))
    → ((v : List ℕ) → comparison_value key (c v) ≡ make v) → ((v : List ℕ) → comparison_depth (c v) ≡ d) → IsCompared key (before ts) found d
with_value key make c before ts found d e tokens values depth =
    let read = map_some (λ p. (make p.0, p.1)) (value ts) found e in
    let (v, rest) = read.0 in
    record {
      phrase = c v;
      tokens = ap before (value_is ts v rest read.1) ∙ sym (tokens v rest) ∙ ap (λ (p : Found). comparison_tokens (c v) p.1) read.2;
      value = values v ∙ ap (λ (p : Found). p.0) read.2;
      depth_is = depth v;
    }

with_set : (key : List ℕ) (make : List (List ℕ) → Formula) (c : List (List ℕ) → Comparison) (before : List Token → List Token) (ts : List Token) (found : Found) (d : ℕ)
    → parse_map make (set ts) ≡ Some found → ((vs : List (List ℕ)) (rest : List Token) → comparison_tokens (c vs) rest ≡ before (set_tokens vs rest))
    → ((vs : List (List ℕ)) → comparison_value key (c vs) ≡ make (ascending vs)) → ((vs : List (List ℕ)) → comparison_depth (c vs) ≡ d) → IsCompared key (before ts) found d
with_set key make c before ts found d e tokens values depth =
    let read = map_some (λ p. (make p.0, p.1)) (set ts) found e in
    let (vs, rest) = read.0 in
    let listed = set_read ts vs rest read.1 in
    record {
      phrase = c listed.listed;
      tokens = ap before listed.tokens ∙ sym (tokens listed.listed rest) ∙ ap (λ (p : Found). comparison_tokens (c listed.listed) p.1) read.2;
      value = values listed.listed ∙ ap make listed.value ∙ ap (λ (p : Found). p.0) read.2;
      depth_is = depth listed.listed;
    }

-- an operator that isn't negative, and one that is
plain_read : (key : List ℕ) (k : Operator) (ts : List Token) (found : Found) → is_negative k ≡ false → operand key k ts ≡ Some found → IsCompared key (operator_tokens k ts) found 0
plain_read key Equals ts found n e = with_value key (is key) phrase.equals (operator_tokens Equals) ts found 0 e (λ v rest. refl) (λ v. refl) (λ v. refl)
plain_read key Differs ts found n e = absurd (cc)
plain_read key OneOf ts found n e = with_set key (among key) phrase.one_of (operator_tokens OneOf) ts found 0 e (λ v rest. refl) (λ v. refl) (λ v. refl)
plain_read key NoneOf ts found n e = absurd (cc)
plain_read key Contains ts found n e = with_value key (contains key) phrase.holds (operator_tokens Contains) ts found 0 e (λ v rest. refl) (λ v. refl) (λ v. refl)
plain_read key Starts ts found n e = with_value key (starts key) phrase.begins (operator_tokens Starts) ts found 0 e (λ v rest. refl) (λ v. refl) (λ v. refl)
plain_read key Ends ts found n e = with_value key (ends key) phrase.finishes (operator_tokens Ends) ts found 0 e (λ v rest. refl) (λ v. refl) (λ v. refl)

map_twice : {A B C : Type 0} (f : A → B) (g : B → C) (r : Option (A × List Token)) → parse_map g (parse_map f r) ≡ parse_map (λ a. g (f a)) r
map_twice f g None = refl
map_twice f g (Some p) = refl

negative_read : (key : List ℕ) (k : Operator) (ts : List Token) (found : Found) → is_negative k ≡ true → parse_map negation (operand key k ts) ≡ Some found → IsCompared key (operator_tokens k ts) found 1
negative_read key Differs ts found n e = with_value key (λ v. negation (is key v)) phrase.differs (operator_tokens Differs) ts found 1 (sym (map_twice (is key) negation (value ts)) ∙ e) (λ v rest. refl) (λ v. refl) (λ v. refl)
negative_read key NoneOf ts found n e = with_set key (λ vs. negation (among key vs)) phrase.none_of (operator_tokens NoneOf) ts found 1 (sym (map_twice (among key) negation (set ts)) ∙ e) (λ v rest. refl) (λ v. refl) (λ v. refl)
negative_read key Equals ts found n e = absurd (cc)
negative_read key OneOf ts found n e = absurd (cc)
negative_read key Contains ts found n e = absurd (cc)
negative_read key Starts ts found n e = absurd (cc)
negative_read key Ends ts found n e = absurd (cc)

negated_needs : (more : Bool) (r : Option Found) (found : Found) → negated more r ≡ Some found → (more ≡ true) × (parse_map negation r ≡ Some found)
negated_needs true r found e = (refl, e)
negated_needs false r found e = absurd (cc)

-- ---- literals, chains and choices

pub record IsLiteral (n : ℕ) (ts : List Token) (found : Found) : Type 0 where
  pub phrase : Literal
  pub tokens : ts ≡ literal_tokens phrase found.1
  pub value : literal_value phrase ≡ found.0
  pub within : literal_depth phrase ≤ n

compared_read : (n : ℕ) (key : List ℕ) (ts : List Token) (found : Found) → compared (nat_lt 0 n) key ts ≡ Some found → IsLiteral n (Word key ∷ ts) found
compared_read n key ts found e =
    let read = and_then_some (λ p. if is_negative p.0 then negated (nat_lt 0 n) (operand key p.0 p.1) else operand key p.0 p.1) (operator ts) found e in
    let (k, rest) = read.0 in
    let tokens = operator_read ts (k, rest) read.1 in
    ⊎_elim (λ h.
    let needs = negated_needs (nat_lt 0 n) (operand key k rest) found h.1 in
    let c = negative_read key k rest found h.0 needs.1 in
    record {
      phrase = phrase.compared key c.phrase;
      tokens = ap (λ xs. Word key ∷ xs) (tokens ∙ c.tokens);
      value = c.value;
      within = omega (arith, c.depth_is, ltb-true 0 n needs.0);
    })
    (λ h.
    let c = plain_read key k rest found h.0 h.1 in
    record {
      phrase = phrase.compared key c.phrase;
      tokens = ap (λ xs. Word key ∷ xs) (tokens ∙ c.tokens);
      value = c.value;
      within = omega (arith, c.depth_is);
    })
    (if_cases (is_negative k) (negated (nat_lt 0 n) (operand key k rest)) (operand key k rest) (Some found) read.2)

has_read : (n : ℕ) (w : List ℕ) (ts : List Token) (found : Found) → same w (codes "has") ≡ true → has_key ts ≡ Some found → IsLiteral n (Word w ∷ Mark Open ∷ ts) found
has_read n w [] found s e = absurd (cc)
has_read n w (Mark m ∷ ts) found s e = absurd (cc)
has_read n w (Quoted v ∷ ts) found s e = absurd (cc)
has_read n w (Word key ∷ ts) found s e =
    let closing = map_some (λ rest. (has key, rest)) (behind_mark Close ts) found e in
    record {
      phrase = phrase.present key;
      tokens = same_word w (codes "has") (Mark Open ∷ Word key ∷ ts) s ∙ ap (λ xs. Word (codes "has") ∷ Mark Open ∷ Word key ∷ xs) (after_is Close ts closing.0 closing.1)
          ∙ ap (λ (p : Found). Word (codes "has") ∷ Mark Open ∷ Word key ∷ Mark Close ∷ p.1) closing.2;
      value = ap (λ (p : Found). p.0) closing.2;
      within = omega arith;
    }

called_read : (n : ℕ) (w : List ℕ) (ts : List Token) (found : Found) → called w ts ≡ Some found → IsLiteral n (Word w ∷ Mark Open ∷ ts) found
called_read n w ts found e =
    ⊎_elim (λ h.
    let closing = map_some (λ rest. (every, rest)) (behind_mark Close ts) found h.1 in
    record {
      phrase = phrase.everything;
      tokens = same_word w (codes "all") (Mark Open ∷ ts) h.0 ∙ ap (λ xs. Word (codes "all") ∷ Mark Open ∷ xs) (after_is Close ts closing.0 closing.1)
          ∙ ap (λ (p : Found). Word (codes "all") ∷ Mark Open ∷ Mark Close ∷ p.1) closing.2;
      value = ap (λ (p : Found). p.0) closing.2;
      within = omega arith;
    })
    (λ h1.
    ⊎_elim (λ h. has_read n w ts found h.0 h.1) (λ h2. absurd (none_is_not_some found h2.1)) (if_cases (same w (codes "has")) (has_key ts) None (Some found) h1.1))
    (if_cases (same w (codes "all")) _ _ (Some found) e)

literal_read-word : (n : ℕ) (w : List ℕ) (ts : List Token) (o : Option (List Token)) (found : Found) → behind_mark Open ts ≡ o → call_or_key (nat_lt 0 n) w ts o ≡ Some found → IsLiteral n (Word w ∷ ts) found
literal_read-word n w ts None found a e = compared_read n w ts found e
literal_read-word n w ts (Some rest) found a e = subst (λ xs. IsLiteral n (Word w ∷ xs) found) (sym (after_is Open ts rest a)) (called_read n w rest found e)

pub record IsChain (n : ℕ) (ts : List Token) (members : Formulas) (rest : List Token) : Type 0 where
  pub phrase : Chain
  pub tokens : ts ≡ chain_tokens phrase rest
  pub value : chain_members phrase ≡ members
  pub within : chain_depth phrase ≤ n

pub record IsChoice (n : ℕ) (ts : List Token) (members : Formulas) (rest : List Token) : Type 0 where
  pub phrase : Choice
  pub tokens : ts ≡ choice_tokens phrase rest
  pub value : choice_members phrase ≡ members
  pub within : choice_depth phrase ≤ n

-- what reads literals only
abbrev ReadsLiterals : ℕ → Parse Formula → Type 0
ReadsLiterals n read = (ts : List Token) (found : Found) → read ts ≡ Some found → IsLiteral n ts found

-- a literal at the front, with what it stands for and what follows it
record IsLiteralAt (n : ℕ) (ts : List Token) : Type 0 where
  formula : Formula
  after : List Token
  literal : IsLiteral n ts (formula, after)

chain_more : (n k : ℕ) (read : Parse Formula) → ReadsLiterals n read → ((ts : List Token) (fs : Formulas) (rest : List Token) → joined Ands read k ts ≡ Some (fs, rest) → IsChain n ts fs rest)
    → (ts : List Token) (first : IsLiteralAt n ts) (o : Option (List Token)) (fs : Formulas) (rest : List Token) → behind_mark Ands first.after ≡ o → joined_more (joined Ands read k) first.formula first.after o ≡ Some (fs, rest) → IsChain n ts fs rest
chain_more n k read reads more ts first None fs rest a e =
    let same = some_same {A = Formulas × List Token} (formula_then first.formula no_formula, first.after) (fs, rest) e in
    record {
      phrase = phrase.only first.literal.phrase;
      tokens = first.literal.tokens ∙ ap (λ (p : Formulas × List Token). literal_tokens first.literal.phrase p.1) same;
      value = ap (λ f. formula_then f no_formula) first.literal.value ∙ ap (λ (p : Formulas × List Token). p.0) same;
      within = first.literal.within;
    }
chain_more n k read reads more ts first (Some next) fs rest a e =
    let others = map_some (λ (p : Formulas × List Token). (formula_then first.formula p.0, p.1)) (joined Ands read k next) (fs, rest) e in
    let (members, end) = others.0 in
    let chain = more next members end others.1 in
    record {
      phrase = phrase.both first.literal.phrase chain.phrase;
      tokens = first.literal.tokens ∙ ap (literal_tokens first.literal.phrase) (after_is Ands first.after next a ∙ ap (λ xs. Mark Ands ∷ xs) chain.tokens)
          ∙ ap (λ (p : Formulas × List Token). literal_tokens first.literal.phrase (Mark Ands ∷ chain_tokens chain.phrase p.1)) others.2;
      value = ap₂ formula_then first.literal.value chain.value ∙ ap (λ (p : Formulas × List Token). p.0) others.2;
      within = omega (arith, first.literal.within, chain.within);
    }

chain_read : (n : ℕ) (read : Parse Formula) → ReadsLiterals n read → (k : ℕ) (ts : List Token) (fs : Formulas) (rest : List Token) → joined Ands read k ts ≡ Some (fs, rest) → IsChain n ts fs rest
unfolding joined
chain_read n read reads zero ts fs rest e = absurd (cc)
chain_read n read reads (suc k) ts fs rest e =
    let found = and_then_some (λ p. joined_more (joined Ands read k) p.0 p.1 (behind_mark Ands p.1)) (read ts) (fs, rest) e in
    let (f, end) = found.0 in
    let first : IsLiteralAt n ts = record { formula = f; after = end; literal = reads ts (f, end) found.1 } in
    chain_more n k read reads (chain_read n read reads k) ts first (behind_mark Ands end) fs rest refl found.2

pub chain_one : (c : Chain) → one_or conjunction (chain_members c) ≡ chain_value c
chain_one (phrase.only l) = refl
chain_one (phrase.both l (phrase.only m)) = refl
chain_one (phrase.both l (phrase.both m c)) = refl

pub choice_one : (c : Choice) → one_or disjunction (choice_members c) ≡ choice_value c
choice_one (phrase.alone c) = refl
choice_one (phrase.either c (phrase.alone d)) = refl
choice_one (phrase.either c (phrase.either d e)) = refl

-- a chain that stands for one formula
pub record IsChainOf (n : ℕ) (ts : List Token) (found : Found) : Type 0 where
  pub phrase : Chain
  pub tokens : ts ≡ chain_tokens phrase found.1
  pub value : chain_value phrase ≡ found.0
  pub within : chain_depth phrase ≤ n

pub record IsChoiceOf (n : ℕ) (ts : List Token) (found : Found) : Type 0 where
  pub phrase : Choice
  pub tokens : ts ≡ choice_tokens phrase found.1
  pub value : choice_value phrase ≡ found.0
  pub within : choice_depth phrase ≤ n

pub chain_with_read : (n : ℕ) (read : Parse Formula) → ReadsLiterals n read → (ts : List Token) (found : Found) → chain_with read ts ≡ Some found → IsChainOf n ts found
chain_with_read n read reads ts found e =
    let members = map_some (λ (p : Formulas × List Token). (one_or conjunction p.0, p.1)) (joined Ands read (length ts) ts) found e in
    let (fs, rest) = members.0 in
    let chain = chain_read n read reads (length ts) ts fs rest members.1 in
    record {
      phrase = chain.phrase;
      tokens = chain.tokens ∙ ap (λ (p : Found). chain_tokens chain.phrase p.1) members.2;
      value = sym (chain_one chain.phrase) ∙ ap (one_or conjunction) chain.value ∙ ap (λ (p : Found). p.0) members.2;
      within = chain.within;
    }

choice_more : (n k : ℕ) (read : Parse Formula) → ((ts : List Token) (fs : Formulas) (rest : List Token) → joined Bars read k ts ≡ Some (fs, rest) → IsChoice n ts fs rest)
    → (ts : List Token) (f : Formula) (end : List Token) → IsChainOf n ts (f, end) → (o : Option (List Token)) (fs : Formulas) (rest : List Token) → behind_mark Bars end ≡ o → joined_more (joined Bars read k) f end o ≡ Some (fs, rest) → IsChoice n ts fs rest
choice_more n k read more ts f end first None fs rest a e =
    let same = some_same {A = Formulas × List Token} (formula_then f no_formula, end) (fs, rest) e in
    record {
      phrase = phrase.alone first.phrase;
      tokens = first.tokens ∙ ap (λ (p : Formulas × List Token). chain_tokens first.phrase p.1) same;
      value = ap (λ g. formula_then g no_formula) first.value ∙ ap (λ (p : Formulas × List Token). p.0) same;
      within = first.within;
    }
choice_more n k read more ts f end first (Some next) fs rest a e =
    let others = map_some (λ (p : Formulas × List Token). (formula_then f p.0, p.1)) (joined Bars read k next) (fs, rest) e in
    let (members, last) = others.0 in
    let choice = more next members last others.1 in
    record {
      phrase = phrase.either first.phrase choice.phrase;
      tokens = first.tokens ∙ ap (chain_tokens first.phrase) (after_is Bars end next a ∙ ap (λ xs. Mark Bars ∷ xs) choice.tokens)
          ∙ ap (λ (p : Formulas × List Token). chain_tokens first.phrase (Mark Bars ∷ choice_tokens choice.phrase p.1)) others.2;
      value = ap₂ formula_then first.value choice.value ∙ ap (λ (p : Formulas × List Token). p.0) others.2;
      within = omega (arith, first.within, choice.within);
    }

choice_read : (n : ℕ) (read : Parse Formula) → ((ts : List Token) (found : Found) → read ts ≡ Some found → IsChainOf n ts found) → (k : ℕ) (ts : List Token) (fs : Formulas) (rest : List Token) → joined Bars read k ts ≡ Some (fs, rest) → IsChoice n ts fs rest
unfolding joined
choice_read n read reads zero ts fs rest e = absurd (cc)
choice_read n read reads (suc k) ts fs rest e =
    let found = and_then_some (λ p. joined_more (joined Bars read k) p.0 p.1 (behind_mark Bars p.1)) (read ts) (fs, rest) e in
    let (f, end) = found.0 in
    choice_more n k read (choice_read n read reads k) ts f end (reads ts (f, end) found.1) (behind_mark Bars end) fs rest refl found.2

pub choice_with_read : (n : ℕ) (read : Parse Formula) → ReadsLiterals n read → (ts : List Token) (found : Found) → choice_with read ts ≡ Some found → IsChoiceOf n ts found
choice_with_read n read reads ts found e =
    let members = map_some (λ (p : Formulas × List Token). (one_or disjunction p.0, p.1)) (joined Bars (chain_with read) (length ts) ts) found e in
    let (fs, rest) = members.0 in
    let choice = choice_read n (chain_with read) (chain_with_read n read reads) (length ts) ts fs rest members.1 in
    record {
      phrase = choice.phrase;
      tokens = choice.tokens ∙ ap (λ (p : Found). choice_tokens choice.phrase p.1) members.2;
      value = sym (choice_one choice.phrase) ∙ ap (one_or disjunction) choice.value ∙ ap (λ (p : Found). p.0) members.2;
      within = choice.within;
    }

refused_read : (n : ℕ) (ts : List Token) (read : Parse Formula) → ReadsLiterals n read → (found : Found) → parse_map negation (read ts) ≡ Some found → IsLiteral (suc n) (Mark Bang ∷ ts) found
refused_read n ts read reads found e =
    let inner = map_some (λ (p : Found). (negation p.0, p.1)) (read ts) found e in
    let l = reads ts inner.0 inner.1 in
    record {
      phrase = phrase.refused l.phrase;
      tokens = ap (λ xs. Mark Bang ∷ xs) l.tokens ∙ ap (λ (p : Found). Mark Bang ∷ literal_tokens l.phrase p.1) inner.2;
      value = ap negation l.value ∙ ap (λ (p : Found). p.0) inner.2;
      within = omega (arith, l.within);
    }

grouped_read : (n : ℕ) (ts : List Token) (read : Parse Formula) → ReadsLiterals n read → (found : Found) → closed (choice_with read ts) ≡ Some found → IsLiteral (suc n) (Mark Open ∷ ts) found
grouped_read n ts read reads found e =
    let inner = and_then_some (λ (p : Found). option_map (λ rest. (p.0, rest)) (behind_mark Close p.1)) (choice_with read ts) found e in
    let (f, end) = inner.0 in
    let closing = map_some (λ (rest : List Token). (f, rest)) (behind_mark Close end) found inner.2 in
    let c = choice_with_read n read reads ts (f, end) inner.1 in
    record {
      phrase = phrase.grouped c.phrase;
      tokens = ap (λ xs. Mark Open ∷ xs) (c.tokens ∙ ap (choice_tokens c.phrase) (after_is Close end closing.0 closing.1)) ∙ ap (λ (p : Found). Mark Open ∷ choice_tokens c.phrase (Mark Close ∷ p.1)) closing.2;
      value = c.value ∙ ap (λ (p : Found). p.0) closing.2;
      within = omega (arith, c.within);
    }

-- what is read as a literal is one, no deeper than allowed
pub literal_read : (n : ℕ) → ReadsLiterals n (literal n)
unfolding literal
literal_read zero [] found e = absurd (cc)
literal_read zero (Quoted v ∷ ts) found e = absurd (cc)
literal_read zero (Word w ∷ ts) found e = literal_read-word 0 w ts (behind_mark Open ts) found refl e
literal_read zero (Mark Bang ∷ ts) found e = absurd (cc)
literal_read zero (Mark Open ∷ ts) found e = absurd (cc)
literal_read zero (Mark _ ∷ ts) found e = absurd (cc)
literal_read (suc n) [] found e = absurd (cc)
literal_read (suc n) (Quoted v ∷ ts) found e = absurd (cc)
literal_read (suc n) (Word w ∷ ts) found e =
    literal_read-word (suc n) w ts (behind_mark Open ts) found refl (ap (λ (more : Bool). call_or_key more w ts (behind_mark Open ts)) (lt-ltb 0 (suc n) (omega arith)) ∙ e)
literal_read (suc n) (Mark Bang ∷ ts) found e = refused_read n ts (literal n) (literal_read n) found e
literal_read (suc n) (Mark Open ∷ ts) found e = grouped_read n ts (literal n) (literal_read n) found e
literal_read (suc n) (Mark _ ∷ ts) found e = absurd (cc)

-- ---- what is left is shorter

shorter_further : (vs : List (List ℕ)) (rest : List Token) → length rest ≤ length (further_values vs rest)
shorter_further [] rest = omega arith
shorter_further (v ∷ vs) rest = omega (arith, shorter_further vs rest)

shorter_set : (vs : List (List ℕ)) (rest : List Token) → length rest < length (set_tokens vs rest)
shorter_set [] rest = omega arith
shorter_set (v ∷ vs) rest = omega (arith, shorter_further vs (Mark CloseBrace ∷ rest))

shorter_comparison : (c : Comparison) (rest : List Token) → length rest < length (comparison_tokens c rest)
shorter_comparison (phrase.equals v) rest = omega arith
shorter_comparison (phrase.differs v) rest = omega arith
shorter_comparison (phrase.one_of vs) rest = omega (arith, shorter_set vs rest)
shorter_comparison (phrase.none_of vs) rest = omega (arith, shorter_set vs rest)
shorter_comparison (phrase.holds v) rest = omega arith
shorter_comparison (phrase.begins v) rest = omega arith
shorter_comparison (phrase.finishes v) rest = omega arith

mutual
  pub shorter_literal : (l : Literal) (rest : List Token) → length rest < length (literal_tokens l rest)
  shorter_literal (phrase.refused l) rest = omega (arith, shorter_literal l rest)
  shorter_literal phrase.everything rest = omega arith
  shorter_literal (phrase.present key) rest = omega arith
  shorter_literal (phrase.compared key c) rest = omega (arith, shorter_comparison c rest)
  shorter_literal (phrase.grouped c) rest = omega (arith, shorter_choice c (Mark Close ∷ rest))

  pub shorter_chain : (c : Chain) (rest : List Token) → length rest < length (chain_tokens c rest)
  shorter_chain (phrase.only l) rest = shorter_literal l rest
  shorter_chain (phrase.both l c) rest = omega (arith, shorter_literal l (Mark Ands ∷ chain_tokens c rest), shorter_chain c rest)

  pub shorter_choice : (c : Choice) (rest : List Token) → length rest < length (choice_tokens c rest)
  shorter_choice (phrase.alone c) rest = shorter_chain c rest
  shorter_choice (phrase.either c d) rest = omega (arith, shorter_chain c (Mark Bars ∷ choice_tokens d rest), shorter_choice d rest)

pub literal_shorter : (n : ℕ) (ts : List Token) (found : Found) → literal n ts ≡ Some found → length found.1 < length ts
literal_shorter n ts found e =
    let l = literal_read n ts found e in
    subst (λ xs. length found.1 < length xs) (sym l.tokens) (shorter_literal l.phrase found.1)

pub chain_shorter : (n : ℕ) (ts : List Token) (found : Found) → chain_with (literal n) ts ≡ Some found → length found.1 < length ts
chain_shorter n ts found e =
    let c = chain_with_read n (literal n) (literal_read n) ts found e in
    subst (λ xs. length found.1 < length xs) (sym c.tokens) (shorter_chain c.phrase found.1)
