-- What is printed of a formed formula is a phrase that stands for it.
use Rattle.std.proofs.Common.{◌≡◌, ℕ, ◌-◌, ◌<◌, ◌≤◌, Bool, true, false, ◌&&◌, ◌==◌, inr, List, [], ◌∷◌, ◌++◌, codes, nat_lt, refl, sym, ap, ap₂, ◌∙◌, subst, arith, ltb-true, append_assoc, append-nil}
use Rattle.std.specs.List.{list_all}
use Rattle.std.proofs.lemmas.Bool.{false≢true}
use Rattle.std.proofs.lemmas.Bool.Decides.{nat_tests}
use Rattle.ipam_select.specs.Formula.{Formula, every, has, is, negation, among, contains, starts, ends, conjunction, disjunction, Formulas, no_formula, formula_then}
use Rattle.ipam_select.specs.Words.{is_key, is_key_byte}
use Rattle.ipam_select.specs.Lexing.{is_at}
use Rattle.ipam_select.specs.Grammar as phrase
use Rattle.ipam_select.specs.Grammar.{Comparison, Literal, Chain, Choice, literal_tokens, chain_tokens, choice_tokens, comparison_depth, literal_depth, chain_depth, choice_depth, ascending, comparison_value, literal_value, chain_value, chain_members, choice_value, choice_members, Spells, Reads}
use Rattle.ipam_select.specs.Printing.{quoted_text, values_text, needs_parentheses, wrapped, printed, members_text}
use Rattle.ipam_select.specs.Sound.{is_quotable, ascends, are_several, member_formed, is_formed, are_formed, is_member_formed}
use Rattle.ipam_select.specs.declared.token.Token.{Token}
use Rattle.ipam_select.specs.declared.token.Token.TheVariants.{Word, Quoted, Mark}
use Rattle.ipam_select.specs.declared.token.Mark.TheVariants.{Open, Close, Equal, Bang, Ands, Bars}
use Rattle.ipam_select.proofs.Choices.{and_true}
use Rattle.ipam_select.proofs.Ordered.{ascending_same}
use Rattle.ipam_select.proofs.Roundtrip.{literal_of, chain_of, member_of, choice_of, blank_before, token_then, IsOperator, compared_spelled, equals_operator, contains_operator, starts_operator, ends_operator, among_spelled, has_spelled, everything_spelled, grouped_spelled}

-- the text spells these tokens, whatever follows
abbrev SpellsBefore : List ℕ → (List Token → List Token) → Type 0
SpellsBefore text toks = (rest : List ℕ) (ts : List Token) → Spells rest ts → Spells (text ++ rest) (toks ts)

record IsLiteralFor (n : ℕ) (f : Formula) : Type 0 where
  value : literal_value (literal_of f) ≡ f
  within : literal_depth (literal_of f) ≤ n
  spelled : SpellsBefore (wrapped (needs_parentheses true f) (printed f)) (literal_tokens (literal_of f))

record IsMemberFor (n : ℕ) (f : Formula) : Type 0 where
  value : chain_value (member_of f) ≡ f
  within : chain_depth (member_of f) ≤ n
  spelled : SpellsBefore (wrapped (needs_parentheses false f) (printed f)) (chain_tokens (member_of f))

record IsChainFor (n : ℕ) (fs : Formulas) : Type 0 where
  members : chain_members (chain_of fs) ≡ fs
  within : chain_depth (chain_of fs) ≤ n
  spelled : SpellsBefore (members_text true true fs) (chain_tokens (chain_of fs))

record IsChoiceFor (n : ℕ) (fs : Formulas) : Type 0 where
  members : choice_members (choice_of fs) ≡ fs
  within : choice_depth (choice_of fs) ≤ n
  spelled : SpellsBefore (members_text false true fs) (choice_tokens (choice_of fs))

record IsGood (f : Formula) : Type 0 where
  literal : (n : ℕ) → is_member_formed true n f ≡ true → IsLiteralFor n f
  member : (n : ℕ) → is_member_formed false n f ≡ true → IsMemberFor n f

abbrev are_some : Formulas → Bool
are_some no_formula = false
are_some (formula_then f fs) = true

several_are_some : (fs : Formulas) → are_several fs ≡ true → are_some fs ≡ true
several_are_some no_formula h = absurd (cc)
several_are_some (formula_then f fs) h = refl

record AreGood (fs : Formulas) : Type 0 where
  chain : (n : ℕ) → are_some fs ≡ true → are_formed true n fs ≡ true → IsChainFor n fs
  choice : (n : ℕ) → are_some fs ≡ true → are_formed false n fs ≡ true → IsChoiceFor n fs

-- ---- comparisons of a key

compared_good : (n : ℕ) (key op v : List ℕ) (toks : List Token → List Token) → (is_key key && is_quotable v) ≡ true → IsOperator op toks
    → SpellsBefore (key ++ (op ++ quoted_text v)) (λ ts. Word key ∷ toks (Quoted v ∷ ts))
compared_good n key op v toks h o rest ts s = compared_spelled key op v rest toks ts h o s

among_parts : (key : List ℕ) (vs : List (List ℕ)) → (is_key key && list_all is_quotable vs && ascends vs) ≡ true → (is_key key ≡ true) × (list_all is_quotable vs ≡ true) × (ascends vs ≡ true)
among_parts key vs h =
    let both = and_true (is_key key && list_all is_quotable vs) (ascends vs) h in
    let first = and_true (is_key key) (list_all is_quotable vs) both.0 in
    (first.0, first.1, both.1)

-- ---- negations and groups

negation_spelled : (text : List ℕ) (toks : List Token → List Token) → SpellsBefore text toks → ((rest : List ℕ) → is_at 61 (text ++ rest) ≡ false) → SpellsBefore (codes "!" ++ text) (λ ts. Mark Bang ∷ toks ts)
negation_spelled text toks inside stop rest ts s = token_then (Mark Bang) (codes "!") (text ++ rest) (toks ts) refl (stop rest) (inside rest ts s)

positive : (n : ℕ) (b : Bool) → (nat_lt 0 n && b) ≡ true → (0 < n) × (b ≡ true)
positive n b h = let both = and_true (nat_lt 0 n) b h in (ltb-true 0 n both.0, both.1)

-- the printed form of a formed formula doesn't begin with `=`, so that a `!` stays one
key_byte_not_equal : (b : ℕ) → is_key_byte b ≡ true → (b == 61) ≡ false
key_byte_not_equal b h = grind (arith, nat_tests)

key_not_equal : (key rest : List ℕ) → is_key key ≡ true → is_at 61 (key ++ rest) ≡ false
key_not_equal [] rest h = absurd (cc)
key_not_equal (b ∷ key) rest h = key_byte_not_equal b (and_true (is_key_byte b) (list_all is_key_byte key) (and_true _ _ h).1).0

compared_starts : (key op v rest : List ℕ) → (is_key key && is_quotable v) ≡ true → is_at 61 ((key ++ (op ++ quoted_text v)) ++ rest) ≡ false
compared_starts key op v rest h =
    ap (is_at 61) (append_assoc key (op ++ quoted_text v) rest) ∙ key_not_equal key ((op ++ quoted_text v) ++ rest) (and_true (is_key key) (is_quotable v) h).0

starts_well : (f : Formula) (n : ℕ) (rest : List ℕ) → is_member_formed true n f ≡ true → is_at 61 (wrapped (needs_parentheses true f) (printed f) ++ rest) ≡ false
starts_well every n rest h = refl
starts_well (has key) n rest h = refl
starts_well (is key v) n rest h = compared_starts key (codes " == ") v rest h
starts_well (negation f) n rest h = refl
starts_well (among key vs) n rest h =
    ap (is_at 61) (append_assoc key (codes " in {" ++ (values_text true vs ++ codes "}")) rest) ∙ key_not_equal key ((codes " in {" ++ (values_text true vs ++ codes "}")) ++ rest) (among_parts key vs h).0
starts_well (contains key v) n rest h = compared_starts key (codes " contains ") v rest h
starts_well (starts key v) n rest h = compared_starts key (codes " starts with ") v rest h
starts_well (ends key v) n rest h = compared_starts key (codes " ends with ") v rest h
starts_well (conjunction fs) n rest h = refl
starts_well (disjunction fs) n rest h = refl

group_spelled : (text : List ℕ) (toks : List Token → List Token) → SpellsBefore text toks → SpellsBefore (codes "(" ++ (text ++ codes ")")) (λ ts. Mark Open ∷ toks (Mark Close ∷ ts))
group_spelled text toks inside rest ts s = grouped_spelled text rest toks ts inside s

-- ---- a formula that is never in parentheses, as a member of an Or

plain_good : (f : Formula) → member_of f ≡ phrase.only (literal_of f) → needs_parentheses true f ≡ false → needs_parentheses false f ≡ false → ((n : ℕ) → is_formed n f ≡ true → IsLiteralFor n f) → IsGood f
plain_good f is_only tight loose good = record {
  literal = λ n h. good n (subst (λ b. member_formed b n (λ d. is_formed d f) ≡ true) tight h);
  member = λ n h.
      let one = good n (subst (λ b. member_formed b n (λ d. is_formed d f) ≡ true) loose h) in
      record {
        value = ap chain_value is_only ∙ one.value;
        within = subst (λ (c : Chain). chain_depth c ≤ n) (sym is_only) one.within;
        spelled = λ rest ts s.
            subst (λ (c : Chain). Spells (wrapped (needs_parentheses false f) (printed f) ++ rest) (chain_tokens c ts)) (sym is_only)
            (subst (λ b. Spells (wrapped b (printed f) ++ rest) (literal_tokens (literal_of f) ts)) (tight ∙ sym loose) (one.spelled rest ts s));
      };
}

-- ---- members, one after another

next_member : (lead one more : List ℕ) (mark : List Token → List Token) (first others : List Token → List Token)
    → ((text : List ℕ) (us : List Token) → Spells text us → Spells (lead ++ text) (mark us)) → SpellsBefore one first → SpellsBefore more others
    → SpellsBefore (one ++ (lead ++ more)) (λ ts. first (mark (others ts)))
next_member lead one more mark first others leads one_is more_is rest ts s =
    let whole : (one ++ (lead ++ more)) ++ rest ≡ one ++ (lead ++ (more ++ rest)) = append_assoc one (lead ++ more) rest ∙ ap (λ xs. one ++ xs) (append_assoc lead more rest) in
    subst (λ xs. Spells xs (first (mark (others ts)))) (sym whole) (one_is (lead ++ (more ++ rest)) (mark (others ts)) (leads (more ++ rest) (others ts) (more_is rest ts s)))

ands_lead : (text : List ℕ) (us : List Token) → Spells text us → Spells (codes " && " ++ text) (Mark Ands ∷ us)
ands_lead text us s = blank_before (codes "&& " ++ text) (Mark Ands ∷ us) (token_then (Mark Ands) (codes "&&") (32 ∷ text) us refl tt (blank_before text us s))

bars_lead : (text : List ℕ) (us : List Token) → Spells text us → Spells (codes " || " ++ text) (Mark Bars ∷ us)
bars_lead text us s = blank_before (codes "|| " ++ text) (Mark Bars ∷ us) (token_then (Mark Bars) (codes "||") (32 ∷ text) us refl tt (blank_before text us s))

last_spelled : (text : List ℕ) (toks : List Token → List Token) → SpellsBefore text toks → SpellsBefore (text ++ []) toks
last_spelled text toks h rest ts s = subst (λ xs. Spells (xs ++ rest) (toks ts)) (sym (append-nil text)) (h rest ts s)

chain_is : (fs : Formulas) → are_several fs ≡ true → chain_members (chain_of fs) ≡ fs → chain_value (chain_of fs) ≡ conjunction fs
chain_is no_formula h e = absurd (cc)
chain_is (formula_then f no_formula) h e = absurd (cc)
chain_is (formula_then f (formula_then g fs)) h e = ap conjunction e

choice_is : (fs : Formulas) → are_several fs ≡ true → choice_members (choice_of fs) ≡ fs → choice_value (choice_of fs) ≡ disjunction fs
choice_is no_formula h e = absurd (cc)
choice_is (formula_then f no_formula) h e = absurd (cc)
choice_is (formula_then f (formula_then g fs)) h e = ap disjunction e

-- an And and an Or, from their members
and_good : (fs : Formulas) → AreGood fs → IsGood (conjunction fs)
and_good fs good = record {
  literal = λ n h.
      let level = positive n (are_several fs && are_formed true (n - 1) fs) h in
      let both = and_true (are_several fs) (are_formed true (n - 1) fs) level.1 in
      let chain = good.chain (n - 1) (several_are_some fs both.0) both.1 in
      record {
        value = chain_is fs both.0 chain.members;
        within = omega (arith, chain.within, level.0);
        spelled = group_spelled (members_text true true fs) (chain_tokens (chain_of fs)) chain.spelled;
      };
  member = λ n h.
      let both = and_true (are_several fs) (are_formed true n fs) h in
      let chain = good.chain n (several_are_some fs both.0) both.1 in
      record { value = chain_is fs both.0 chain.members; within = chain.within; spelled = chain.spelled };
}

or_good : (fs : Formulas) → AreGood fs → IsGood (disjunction fs)
or_good fs good =
    let wrap : (n : ℕ) → is_member_formed true n (disjunction fs) ≡ true → IsLiteralFor n (disjunction fs) = λ n h.
    let level = positive n (are_several fs && are_formed false (n - 1) fs) h in
    let both = and_true (are_several fs) (are_formed false (n - 1) fs) level.1 in
    let choice = good.choice (n - 1) (several_are_some fs both.0) both.1 in
    record {
      value = choice_is fs both.0 choice.members;
      within = omega (arith, choice.within, level.0);
      spelled = group_spelled (members_text false true fs) (choice_tokens (choice_of fs)) choice.spelled;
    } in
    record {
      literal = wrap;
      member = λ n h. let one = wrap n h in record { value = one.value; within = one.within; spelled = one.spelled };
    }

mutual
  good : (f : Formula) → IsGood f
  good every = plain_good every refl refl refl (λ n h. record { value = refl; within = omega arith; spelled = everything_spelled })
  good (has key) = plain_good (has key) refl refl refl (λ n h. record { value = refl; within = omega arith; spelled = λ rest ts s. has_spelled key rest ts h s })
  good (is key v) = plain_good (is key v) refl refl refl (λ n h. record { value = refl; within = omega arith; spelled = compared_good n key (codes " == ") v (λ us. Mark Equal ∷ us) h equals_operator })
  good (contains key v) =
      plain_good (contains key v) refl refl refl (λ n h. record { value = refl; within = omega arith; spelled = compared_good n key (codes " contains ") v (λ us. Word (codes "contains") ∷ us) h contains_operator })
  good (starts key v) =
      plain_good (starts key v) refl refl refl (λ n h. record { value = refl; within = omega arith; spelled = compared_good n key (codes " starts with ") v (λ us. Word (codes "starts") ∷ Word (codes "with") ∷ us) h starts_operator })
  good (ends key v) =
      plain_good (ends key v) refl refl refl (λ n h. record { value = refl; within = omega arith; spelled = compared_good n key (codes " ends with ") v (λ us. Word (codes "ends") ∷ Word (codes "with") ∷ us) h ends_operator })
  good (among key vs) =
      plain_good (among key vs) refl refl refl (λ n h.
      let parts = among_parts key vs h in
      record { value = ap (among key) (ascending_same vs parts.2); within = omega arith; spelled = λ rest ts s. among_spelled key vs rest ts parts.0 parts.1 s })
  good (negation f) =
      plain_good (negation f) refl refl refl (λ n h.
      let level = positive n (is_member_formed true (n - 1) f) h in
      let inner = (good f).literal (n - 1) level.1 in
      record {
        value = ap negation inner.value;
        within = omega (arith, inner.within, level.0);
        spelled = negation_spelled (wrapped (needs_parentheses true f) (printed f)) (literal_tokens (literal_of f)) inner.spelled (λ rest. starts_well f (n - 1) rest level.1);
      })
  good (conjunction fs) = and_good fs (all_good fs)
  good (disjunction fs) = or_good fs (all_good fs)

  all_good : (fs : Formulas) → AreGood fs
  all_good no_formula = record { chain = λ n some h. absurd (false≢true some); choice = λ n some h. absurd (false≢true some) }
  all_good (formula_then f no_formula) = record {
    chain = λ n some h.
        let one = (good f).literal n (and_true (is_member_formed true n f) true h).0 in
        record {
          members = ap (λ g. formula_then g no_formula) one.value;
          within = one.within;
          spelled = last_spelled (wrapped (needs_parentheses true f) (printed f)) (literal_tokens (literal_of f)) one.spelled;
        };
    choice = λ n some h.
        let one = (good f).member n (and_true (is_member_formed false n f) true h).0 in
        record {
          members = ap (λ g. formula_then g no_formula) one.value;
          within = one.within;
          spelled = last_spelled (wrapped (needs_parentheses false f) (printed f)) (chain_tokens (member_of f)) one.spelled;
        };
  }
  all_good (formula_then f (formula_then g fs)) = record {
    chain = λ n some h.
        let both = and_true (is_member_formed true n f) (are_formed true n (formula_then g fs)) h in
        let one = (good f).literal n both.0 in
        let more = (all_good (formula_then g fs)).chain n refl both.1 in
        record {
          members = ap₂ formula_then one.value more.members;
          within = omega (arith, one.within, more.within);
          spelled = next_member (codes " && ") (wrapped (needs_parentheses true f) (printed f)) (members_text true true (formula_then g fs)) (λ us. Mark Ands ∷ us)
              (literal_tokens (literal_of f)) (chain_tokens (chain_of (formula_then g fs))) ands_lead one.spelled more.spelled;
        };
    choice = λ n some h.
        let both = and_true (is_member_formed false n f) (are_formed false n (formula_then g fs)) h in
        let one = (good f).member n both.0 in
        let more = (all_good (formula_then g fs)).choice n refl both.1 in
        record {
          members = ap₂ formula_then one.value more.members;
          within = omega (arith, one.within, more.within);
          spelled = next_member (codes " || ") (wrapped (needs_parentheses false f) (printed f)) (members_text false true (formula_then g fs)) (λ us. Mark Bars ∷ us)
              (chain_tokens (member_of f)) (choice_tokens (choice_of (formula_then g fs))) bars_lead one.spelled more.spelled;
        };
  }

-- ---- the whole formula

from_member : (f : Formula) (n : ℕ) → needs_parentheses false f ≡ false → is_formed n f ≡ true → IsMemberFor n f
from_member f n loose h = (good f).member n (subst (λ b. member_formed b n (λ d. is_formed d f) ≡ true) (sym loose) h)

member_reads : (f : Formula) → needs_parentheses false f ≡ false → is_formed 32 f ≡ true → Reads (printed f) f
member_reads f loose h =
    let one = from_member f 32 loose h in
    let text : wrapped (needs_parentheses false f) (printed f) ++ [] ≡ printed f = append-nil (wrapped (needs_parentheses false f) (printed f)) ∙ ap (λ b. wrapped b (printed f)) loose in
    inr (record {
      phrase = phrase.alone (member_of f);
      spelled = subst (λ xs. Spells xs (chain_tokens (member_of f) [])) text (one.spelled [] [] refl);
      depth = one.within;
      value = one.value;
    })

-- a formed formula is read of its printed form
pub printed_reads : (f : Formula) → is_formed 32 f ≡ true → Reads (printed f) f
printed_reads every h = member_reads every refl h
printed_reads (has key) h = member_reads (has key) refl h
printed_reads (is key v) h = member_reads (is key v) refl h
printed_reads (negation f) h = member_reads (negation f) refl h
printed_reads (among key vs) h = member_reads (among key vs) refl h
printed_reads (contains key v) h = member_reads (contains key v) refl h
printed_reads (starts key v) h = member_reads (starts key v) refl h
printed_reads (ends key v) h = member_reads (ends key v) refl h
printed_reads (conjunction fs) h = member_reads (conjunction fs) refl h
printed_reads (disjunction fs) h =
    let both = and_true (are_several fs) (are_formed false 32 fs) h in
    let choice = (all_good fs).choice 32 (several_are_some fs both.0) both.1 in
    inr (record {
      phrase = choice_of fs;
      spelled = subst (λ xs. Spells xs (choice_tokens (choice_of fs) [])) (append-nil (members_text false true fs)) (choice.spelled [] [] refl);
      depth = choice.within;
      value = choice_is fs both.0 choice.members;
    })
