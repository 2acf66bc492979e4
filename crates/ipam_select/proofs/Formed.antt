-- What is read is formed, at the depth of its phrase.
use Rattle.std.proofs.Common.{◌≡◌, ℕ, zero, suc, ◌-◌, ◌<◌, ◌≤◌, Bool, true, false, ◌&&◌, ◌||◌, ⊎_elim, List, [], ◌∷◌, nat_lt, refl, sym, ap, ◌∙◌, subst, arith, lt-ltb, ltb-true}
use Rattle.std.specs.List.{list_all}
use Rattle.ipam_select.specs.Formula.{Formula, every, has, is, negation, among, contains, starts, ends, conjunction, disjunction, Formulas, no_formula, formula_then}
use Rattle.ipam_select.specs.Words.{is_key, is_value, lacks}
use Rattle.ipam_select.specs.Grammar as phrase
use Rattle.ipam_select.specs.Grammar.{Comparison, Literal, Chain, Choice, further_values, value_tokens, set_tokens, comparison_tokens, literal_tokens, chain_tokens, choice_tokens, comparison_depth, literal_depth, chain_depth, choice_depth, ascending, comparison_value, literal_value, chain_value, chain_members, choice_value, choice_members, IsSpelling, Spells, Reads}
use Rattle.ipam_select.specs.Printing.{needs_parentheses}
use Rattle.ipam_select.specs.Sound.{is_quotable, fits_quotes, ascends, are_several, member_formed, is_formed, are_formed, is_member_formed}
use Rattle.ipam_select.specs.declared.token.Token.{Token}
use Rattle.ipam_select.specs.declared.token.Token.TheVariants.{Word, Quoted, Mark}
use Rattle.ipam_select.specs.declared.token.Mark.TheVariants.{Close, CloseBrace, Ands, Bars}
use Rattle.ipam_select.proofs.Choices.{and_true, and_both}
use Rattle.ipam_select.proofs.Ordered.{ascends-ascending, ascending_pass}

-- ---- more depth doesn't hurt

deeper : (n m : ℕ) → nat_lt 0 n ≡ true → n ≤ m → nat_lt 0 m ≡ true
deeper n m h l = lt-ltb 0 m (omega (arith, ltb-true 0 n h))

-- a member that is formed at a depth is so at a greater one
member_more : (b : Bool) (n m : ℕ) (formed : ℕ → Bool) → ((j k : ℕ) → j ≤ k → formed j ≡ true → formed k ≡ true) → n ≤ m → member_formed b n formed ≡ true → member_formed b m formed ≡ true
member_more false n m formed grows l h = grows n m l h
member_more true n m formed grows l h =
    let both = and_true (nat_lt 0 n) (formed (n - 1)) h in
    and_both (nat_lt 0 m) (formed (m - 1)) (deeper n m both.0 l) (grows (n - 1) (m - 1) (omega arith) both.1)

mutual
  pub formed_more : (f : Formula) (n m : ℕ) → n ≤ m → is_formed n f ≡ true → is_formed m f ≡ true
  formed_more every n m l h = h
  formed_more (has key) n m l h = h
  formed_more (is key v) n m l h = h
  formed_more (negation f) n m l h =
      let both = and_true (nat_lt 0 n) (is_member_formed true (n - 1) f) h in
      and_both (nat_lt 0 m) (is_member_formed true (m - 1) f) (deeper n m both.0 l)
      (member_more (needs_parentheses true f) (n - 1) (m - 1) (λ d. is_formed d f) (λ j k le g. formed_more f j k le g) (omega arith) both.1)
  formed_more (among key vs) n m l h = h
  formed_more (contains key v) n m l h = h
  formed_more (starts key v) n m l h = h
  formed_more (ends key v) n m l h = h
  formed_more (conjunction fs) n m l h =
      let both = and_true (are_several fs) (are_formed true n fs) h in
      and_both (are_several fs) (are_formed true m fs) both.0 (all_formed_more fs true n m l both.1)
  formed_more (disjunction fs) n m l h =
      let both = and_true (are_several fs) (are_formed false n fs) h in
      and_both (are_several fs) (are_formed false m fs) both.0 (all_formed_more fs false n m l both.1)

  all_formed_more : (fs : Formulas) (tight : Bool) (n m : ℕ) → n ≤ m → are_formed tight n fs ≡ true → are_formed tight m fs ≡ true
  all_formed_more no_formula tight n m l h = refl
  all_formed_more (formula_then f fs) tight n m l h =
      let both = and_true (is_member_formed tight n f) (are_formed tight n fs) h in
      and_both (is_member_formed tight m f) (are_formed tight m fs)
      (member_more (needs_parentheses tight f) n m (λ d. is_formed d f) (λ j k le g. formed_more f j k le g) l both.0) (all_formed_more fs tight n m l both.1)

-- a member that is formed one level up is so in parentheses
wrap_formed : (b : Bool) (n : ℕ) (f : Formula) → is_formed n f ≡ true → member_formed b (suc n) (λ d. is_formed d f) ≡ true
wrap_formed true n f h = and_both (nat_lt 0 (suc n)) (is_formed (suc n - 1) f) (lt-ltb 0 (suc n) (omega arith)) (formed_more f n (suc n - 1) (omega arith) h)
wrap_formed false n f h = formed_more f n (suc n) (omega arith) h

-- a member in parentheses or without them is formed
unwrap_formed : (b : Bool) (n : ℕ) (f : Formula) → member_formed b n (λ d. is_formed d f) ≡ true → is_formed n f ≡ true
unwrap_formed true n f h = formed_more f (n - 1) n (omega arith) (and_true (nat_lt 0 n) (is_formed (n - 1) f) h).1
unwrap_formed false n f h = h

-- what is a member of an And or of a negation is one of an Or
loosen : (f : Formula) (n : ℕ) → is_member_formed true n f ≡ true → is_member_formed false n f ≡ true
loosen every n h = h
loosen (has key) n h = h
loosen (is key v) n h = h
loosen (negation f) n h = h
loosen (among key vs) n h = h
loosen (contains key v) n h = h
loosen (starts key v) n h = h
loosen (ends key v) n h = h
loosen (conjunction fs) n h = unwrap_formed true n (conjunction fs) h
loosen (disjunction fs) n h = h

-- ---- the tokens of a text have keys and values

abbrev pub token_fits : Token → Bool
token_fits (Word w) = is_key w
token_fits (Quoted v) = is_quotable v
token_fits (Mark m) = true

or_second : (a b : Bool) → b ≡ true → (a || b) ≡ true
or_second true b e = refl
or_second false b e = e

spelling_fits : (t : Token) (bytes : List ℕ) → IsSpelling t bytes → token_fits t ≡ true
spelling_fits (Word w) bytes h = h.0
spelling_fits (Mark m) bytes h = refl
spelling_fits (Quoted v) bytes h =
    and_both (is_value v) (fits_quotes v) h.0
    (⊎_elim (λ q. ap (λ (c : Bool). c || lacks 34 v) (subst (λ k. lacks k v ≡ true) q h.3)) (λ q. or_second (lacks 39 v) (lacks 34 v) (subst (λ k. lacks k v ≡ true) q h.3)) h.2)

pub tokens_fit : (ts : List Token) (text : List ℕ) → Spells text ts → list_all token_fits ts ≡ true
tokens_fit [] text h = refl
tokens_fit (t ∷ ts) text h =
    let (blanks, bytes, rest, whole, blank, spelling, stop, others) = h in
    and_both (token_fits t) (list_all token_fits ts) (spelling_fits t bytes spelling) (tokens_fit ts rest others)

-- ---- each phrase stands for a formed formula

further_fit : (vs : List (List ℕ)) (us : List Token) → list_all token_fits (further_values vs us) ≡ true → (list_all is_quotable vs ≡ true) × (list_all token_fits us ≡ true)
further_fit [] us h = (refl, h)
further_fit (v ∷ vs) us h =
    let both = and_true (is_quotable v) (list_all token_fits (further_values vs us)) h in
    let more = further_fit vs us both.1 in
    (and_both (is_quotable v) (list_all is_quotable vs) both.0 more.0, more.1)

values_fit : (vs : List (List ℕ)) (us : List Token) → list_all token_fits (value_tokens vs us) ≡ true → (list_all is_quotable vs ≡ true) × (list_all token_fits us ≡ true)
values_fit [] us h = (refl, h)
values_fit (v ∷ vs) us h =
    let both = and_true (is_quotable v) (list_all token_fits (further_values vs us)) h in
    let more = further_fit vs us both.1 in
    (and_both (is_quotable v) (list_all is_quotable vs) both.0 more.0, more.1)

among_formed : (key : List ℕ) (vs : List (List ℕ)) → is_key key ≡ true → list_all is_quotable vs ≡ true → (is_key key && list_all is_quotable (ascending vs) && ascends (ascending vs)) ≡ true
among_formed key vs k q =
    and_both (is_key key && list_all is_quotable (ascending vs)) (ascends (ascending vs)) (and_both (is_key key) (list_all is_quotable (ascending vs)) k (ascending_pass is_quotable vs q)) (ascends-ascending vs)

comparison_formed : (key : List ℕ) (c : Comparison) (n : ℕ) (rest : List Token) → is_key key ≡ true → list_all token_fits (comparison_tokens c rest) ≡ true → comparison_depth c ≤ n
    → (is_member_formed true n (comparison_value key c) ≡ true) × (list_all token_fits rest ≡ true)
comparison_formed key (phrase.equals v) n rest k h l = let both = and_true (is_quotable v) (list_all token_fits rest) h in (and_both (is_key key) (is_quotable v) k both.0, both.1)
comparison_formed key (phrase.differs v) n rest k h l =
    let both = and_true (is_quotable v) (list_all token_fits rest) h in
    (and_both (nat_lt 0 n) (is_key key && is_quotable v) (lt-ltb 0 n (omega arith)) (and_both (is_key key) (is_quotable v) k both.0), both.1)
comparison_formed key (phrase.one_of vs) n rest k h l = let fit = values_fit vs (Mark CloseBrace ∷ rest) h in (among_formed key vs k fit.0, fit.1)
comparison_formed key (phrase.none_of vs) n rest k h l =
    let fit = values_fit vs (Mark CloseBrace ∷ rest) h in
    (and_both (nat_lt 0 n) (is_key key && list_all is_quotable (ascending vs) && ascends (ascending vs)) (lt-ltb 0 n (omega arith)) (among_formed key vs k fit.0), fit.1)
comparison_formed key (phrase.holds v) n rest k h l = let both = and_true (is_quotable v) (list_all token_fits rest) h in (and_both (is_key key) (is_quotable v) k both.0, both.1)
comparison_formed key (phrase.begins v) n rest k h l = let both = and_true (is_quotable v) (list_all token_fits rest) h in (and_both (is_key key) (is_quotable v) k both.0, both.1)
comparison_formed key (phrase.finishes v) n rest k h l = let both = and_true (is_quotable v) (list_all token_fits rest) h in (and_both (is_key key) (is_quotable v) k both.0, both.1)

several_chain : (f : Formula) (c : Chain) → are_several (formula_then f (chain_members c)) ≡ true
several_chain f (phrase.only l) = refl
several_chain f (phrase.both l c) = refl

several_choice : (f : Formula) (c : Choice) → are_several (formula_then f (choice_members c)) ≡ true
several_choice f (phrase.alone c) = refl
several_choice f (phrase.either c d) = refl

grouped_formed : (f : Formula) (n : ℕ) → 0 < n → is_formed (n - 1) f ≡ true → is_member_formed true n f ≡ true
grouped_formed f zero l h = absurd (omega arith)
grouped_formed f (suc n) l h = wrap_formed (needs_parentheses true f) n f (formed_more f (suc n - 1) n (omega arith) h)

mutual
  literal_formed : (l : Literal) (n : ℕ) (rest : List Token) → list_all token_fits (literal_tokens l rest) ≡ true → literal_depth l ≤ n
      → (is_member_formed true n (literal_value l) ≡ true) × (list_all token_fits rest ≡ true)
  literal_formed (phrase.refused l) n rest h d =
      let inner = literal_formed l (n - 1) rest h (omega arith) in
      (and_both (nat_lt 0 n) (is_member_formed true (n - 1) (literal_value l)) (lt-ltb 0 n (omega arith)) inner.0, inner.1)
  literal_formed phrase.everything n rest h d = (refl, h)
  literal_formed (phrase.present key) n rest h d = and_true (is_key key) (list_all token_fits rest) h
  literal_formed (phrase.compared key c) n rest h d =
      let both = and_true (is_key key) (list_all token_fits (comparison_tokens c rest)) h in
      comparison_formed key c n rest both.0 both.1 d
  literal_formed (phrase.grouped c) n rest h d =
      let inner = choice_formed c (n - 1) (Mark Close ∷ rest) h (omega arith) in
      (grouped_formed (choice_value c) n (omega arith) inner.1, inner.2)

  chain_formed : (c : Chain) (n : ℕ) (rest : List Token) → list_all token_fits (chain_tokens c rest) ≡ true → chain_depth c ≤ n
      → (are_formed true n (chain_members c) ≡ true) × (is_member_formed false n (chain_value c) ≡ true) × (list_all token_fits rest ≡ true)
  chain_formed (phrase.only l) n rest h d =
      let one = literal_formed l n rest h d in
      (and_both (is_member_formed true n (literal_value l)) true one.0 refl, loosen (literal_value l) n one.0, one.1)
  chain_formed (phrase.both l c) n rest h d =
      let one = literal_formed l n (Mark Ands ∷ chain_tokens c rest) h (omega arith) in
      let more = chain_formed c n rest one.1 (omega arith) in
      let all = and_both (is_member_formed true n (literal_value l)) (are_formed true n (chain_members c)) one.0 more.0 in
      (all, and_both (are_several (formula_then (literal_value l) (chain_members c))) (are_formed true n (formula_then (literal_value l) (chain_members c))) (several_chain (literal_value l) c) all, more.2)

  choice_formed : (c : Choice) (n : ℕ) (rest : List Token) → list_all token_fits (choice_tokens c rest) ≡ true → choice_depth c ≤ n
      → (are_formed false n (choice_members c) ≡ true) × (is_formed n (choice_value c) ≡ true) × (list_all token_fits rest ≡ true)
  choice_formed (phrase.alone c) n rest h d =
      let one = chain_formed c n rest h d in
      (and_both (is_member_formed false n (chain_value c)) true one.1 refl, unwrap_formed (needs_parentheses false (chain_value c)) n (chain_value c) one.1, one.2)
  choice_formed (phrase.either c e) n rest h d =
      let one = chain_formed c n (Mark Bars ∷ choice_tokens e rest) h (omega arith) in
      let more = choice_formed e n rest one.2 (omega arith) in
      let all = and_both (is_member_formed false n (chain_value c)) (are_formed false n (choice_members e)) one.1 more.0 in
      (all, and_both (are_several (formula_then (chain_value c) (choice_members e))) (are_formed false n (formula_then (chain_value c) (choice_members e))) (several_choice (chain_value c) e) all, more.2)

-- what a text is read as is formed
pub reads_formed : (text : List ℕ) (f : Formula) → Reads text f → is_formed 32 f ≡ true
reads_formed text f h =
    ⊎_elim (λ blank. ap (is_formed 32) blank.1)
    (λ is. ap (is_formed 32) (sym is.value) ∙ (choice_formed is.phrase 32 [] (tokens_fit (choice_tokens is.phrase []) text is.spelled) is.depth).1) h
