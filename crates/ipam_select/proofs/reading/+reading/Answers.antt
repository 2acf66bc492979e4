use Rattle.std.proofs.Common.{◌≡◌, ℕ, ◌-◌, ◌<◌, List, ◌∷◌, length, Some, None, IfOk, option_map, sym, ap, ap₂, ◌∙◌, subst, arith}
use Rattle.ipam_select.specs.Formula.{Formula, formula, formulas, conjunction, disjunction, negation}
use Rattle.ipam_select.specs.Reading.{parse_map, closed, one_or, joined, chain_with, choice_with, literal, after_mark}
use Rattle.ipam_select.specs.declared.selector.Selector.{Selector}
use Rattle.ipam_select.specs.declared.token.Token.{Token}
use Rattle.ipam_select.specs.declared.token.Token.TheVariants.{Word, Quoted}
use Rattle.ipam_select.specs.declared.token.Mark.TheVariants.{Ands, Bars, Open, Bang}
use Rattle.ipam_select.proofs.Phrases.{after_is, literal_shorter, chain_shorter}
use Rattle.ipam_select.proofs.Ascending.{formula-Not}
use Rattle.ipam_select.proofs.Members.{formulas_before, joined_go, joined_end, joined_fail}
use Rattle.ipam_select.proofs.Literals.{literal-nil, literal-Quoted, literal-Word, literal-mark, literal-Bang, literal-Open, literal-Bang-zero, literal-Open-zero}
use Rattle.ipam_select.proofs.reading.+reading.Goals as goal

pub chain-returns-in_default : goal.chain-returns-in_default
chain-returns-in_default t c =
    let read = literal c.args.depth in
    let ts = c.loop-members.tokens.items in
    let none : read ts ≡ None = grind (arith, c.in_ok-member.ensures) in
    sym (ap (parse_map (one_or conjunction)) (c.loop-members.invariant.2 ∙ joined_fail Ands read c.loop-members.members.items c.loop-members.invariant.0 ts none))

pub chain-returns-then-not-take : goal.chain-returns-then-not-take
chain-returns-then-not-take t c =
    let read = literal c.args.depth in
    let l = c.loop-members in
    let ts = l.tokens.items in
    let rest = c.literal.new.tokens.items in
    let found : read ts ≡ Some (formula c.in-Some.member, rest) = grind (arith, c.in_ok-member.ensures) in
    let some : 0 < l.invariant.0 = omega (arith, l.invariant.1, literal_shorter c.args.depth ts (formula c.in-Some.member, rest) found) in
    let e = l.invariant.2 ∙ joined_end Ands read l.members.items l.invariant.0 ts c.in-Some.member rest some found c.if-not-take.ensures.0 in
    ap₂ (λ (f : Formula) (r : List Token). Some (f, r)) (c.one_or_all.ensures ∙ ap (λ (ms : List Selector). one_or conjunction (formulas ms)) c.in_ok-push.ensures.items) c.if-not-take.ensures.1
    ∙ sym (ap (parse_map (one_or conjunction)) e)

pub chain-loop-members-smaller : goal.chain-loop-members-smaller
chain-loop-members-smaller t c =
    let read = literal c.args.depth in
    let ts = c.loop-members.tokens.items in
    let rest = c.literal.new.tokens.items in
    let found : read ts ≡ Some (formula c.in-Some.member, rest) = grind (arith, c.in_ok-member.ensures) in
    omega (arith, literal_shorter c.args.depth ts (formula c.in-Some.member, rest) found, ap length (after_is Ands rest c.take.new.tokens.items c.if-not-take.ensures))

pub chain-loop-members-preserved : goal.chain-loop-members-preserved
chain-loop-members-preserved t c =
    let read = literal c.args.depth in
    let l = c.loop-members in
    let ts = l.tokens.items in
    let rest = c.literal.new.tokens.items in
    let more = c.take.new.tokens.items in
    let found : read ts ≡ Some (formula c.in-Some.member, rest) = grind (arith, c.in_ok-member.ensures) in
    let less = literal_shorter c.args.depth ts (formula c.in-Some.member, rest) found in
    let some : 0 < l.invariant.0 = omega (arith, l.invariant.1, less) in (
      l.invariant.0 - 1,
      omega (arith, l.invariant.1, less, ap length (after_is Ands rest more c.if-not-take.ensures)),
      l.invariant.2 ∙ joined_go Ands read l.members.items l.invariant.0 ts c.in-Some.member rest more some found c.if-not-take.ensures
          ∙ ap (λ (ms : List Selector). formulas_before ms (joined Ands read (l.invariant.0 - 1) more)) (sym c.in_ok-push.ensures.items),
    )

pub choice-returns-in_default : goal.choice-returns-in_default
choice-returns-in_default t c =
    let read = chain_with (literal c.args.depth) in
    let ts = c.loop-members.tokens.items in
    let none : read ts ≡ None = grind (arith, c.in_ok-member.ensures) in
    sym (ap (parse_map (one_or disjunction)) (c.loop-members.invariant.2 ∙ joined_fail Bars read c.loop-members.members.items c.loop-members.invariant.0 ts none))

pub choice-returns-then-not-take : goal.choice-returns-then-not-take
choice-returns-then-not-take t c =
    let read = chain_with (literal c.args.depth) in
    let l = c.loop-members in
    let ts = l.tokens.items in
    let rest = c.chain.new.tokens.items in
    let found : read ts ≡ Some (formula c.in-Some.member, rest) = grind (arith, c.in_ok-member.ensures) in
    let some : 0 < l.invariant.0 = omega (arith, l.invariant.1, chain_shorter c.args.depth ts (formula c.in-Some.member, rest) found) in
    let e = l.invariant.2 ∙ joined_end Bars read l.members.items l.invariant.0 ts c.in-Some.member rest some found c.if-not-take.ensures.0 in
    ap₂ (λ (f : Formula) (r : List Token). Some (f, r)) (c.one_or_any.ensures ∙ ap (λ (ms : List Selector). one_or disjunction (formulas ms)) c.in_ok-push.ensures.items) c.if-not-take.ensures.1
    ∙ sym (ap (parse_map (one_or disjunction)) e)

pub choice-loop-members-smaller : goal.choice-loop-members-smaller
choice-loop-members-smaller t c =
    let read = chain_with (literal c.args.depth) in
    let ts = c.loop-members.tokens.items in
    let rest = c.chain.new.tokens.items in
    let found : read ts ≡ Some (formula c.in-Some.member, rest) = grind (arith, c.in_ok-member.ensures) in
    omega (arith, chain_shorter c.args.depth ts (formula c.in-Some.member, rest) found, ap length (after_is Bars rest c.take.new.tokens.items c.if-not-take.ensures))

pub choice-loop-members-preserved : goal.choice-loop-members-preserved
choice-loop-members-preserved t c =
    let read = chain_with (literal c.args.depth) in
    let l = c.loop-members in
    let ts = l.tokens.items in
    let rest = c.chain.new.tokens.items in
    let more = c.take.new.tokens.items in
    let found : read ts ≡ Some (formula c.in-Some.member, rest) = grind (arith, c.in_ok-member.ensures) in
    let less = chain_shorter c.args.depth ts (formula c.in-Some.member, rest) found in
    let some : 0 < l.invariant.0 = omega (arith, l.invariant.1, less) in (
      l.invariant.0 - 1,
      omega (arith, l.invariant.1, less, ap length (after_is Bars rest more c.if-not-take.ensures)),
      l.invariant.2 ∙ joined_go Bars read l.members.items l.invariant.0 ts c.in-Some.member rest more some found c.if-not-take.ensures
          ∙ ap (λ (ms : List Selector). formulas_before ms (joined Bars read (l.invariant.0 - 1) more)) (sym c.in_ok-push.ensures.items),
    )

pub group-returns-then-depth-eq0 : goal.group-returns-then-depth-eq0
group-returns-then-depth-eq0 t c =
    sym (ap (λ (d : ℕ). after_mark d Open c.args.tokens.now.items) c.if-depth-eq0.true ∙ literal-Open-zero c.args.tokens.now.items)

pub group-returns-in_default : goal.group-returns-in_default
group-returns-in_default t c =
    let ts = c.args.tokens.now.items in
    let none : choice_with (literal (c.args.depth - 1)) ts ≡ None = grind (arith, c.in_ok-inner.ensures) in
    sym (literal-Open c.args.depth ts (omega arith) ∙ ap closed none)

pub group-returns : goal.group-returns
group-returns t c =
    let ts = c.args.tokens.now.items in
    let found : choice_with (literal (c.args.depth - 1)) ts ≡ Some (formula c.in-Some.inner, c.choice.new.tokens.items) = grind (arith, c.in_ok-inner.ensures) in
    c.close.ensures ∙ sym (literal-Open c.args.depth ts (omega arith) ∙ ap closed found)

pub negation-returns-then-depth-eq0 : goal.negation-returns-then-depth-eq0
negation-returns-then-depth-eq0 t c =
    sym (ap (λ (d : ℕ). after_mark d Bang c.args.tokens.now.items) c.if-depth-eq0.true ∙ literal-Bang-zero c.args.tokens.now.items)

pub negation-returns-in_default : goal.negation-returns-in_default
negation-returns-in_default t c =
    let ts = c.args.tokens.now.items in
    let none : literal (c.args.depth - 1) ts ≡ None = grind (arith, c.in_ok-member.ensures) in
    sym (literal-Bang c.args.depth ts (omega arith) ∙ ap (parse_map negation) none)

pub negation-returns : goal.negation-returns
negation-returns t c =
    let ts = c.args.tokens.now.items in
    let rest = c.literal.new.tokens.items in
    let found : literal (c.args.depth - 1) ts ≡ Some (formula c.in-Some.member, rest) = grind (arith, c.in_ok-member.ensures) in
    ap (λ (f : Formula). Some (f, rest)) (formula-Not c.in_ok-new.field-0 ∙ ap (λ s. negation (formula s)) c.in_ok-new.ensures.ok)
    ∙ sym (literal-Bang c.args.depth ts (omega arith) ∙ ap (parse_map negation) found)

pub literal-returns-in_default : goal.literal-returns-in_default
literal-returns-in_default t c = sym (ap (literal c.args.depth) c.in_default.ensures ∙ literal-nil c.args.depth)

pub literal-returns-in-Word : goal.literal-returns-in-Word
literal-returns-in-Word t c =
    let front : c.args.tokens.now.items ≡ Word c.in-Word.word ∷ c.next.new.tokens.items = c.in-Some.ensures ∙ ap (λ k. k ∷ c.next.new.tokens.items) c.in-Word.is in
    let e = ap (literal c.args.depth) front ∙ literal-Word c.args.depth c.in-Word.word c.next.new.tokens.items in
    subst (λ r. IfOk c.worded.result (λ found. option_map (λ s. (formula s, c.worded.new.tokens.items)) found ≡ r)) (sym e) c.worded.ensures

pub literal-returns : goal.literal-returns
literal-returns t c =
    let front : c.args.tokens.now.items ≡ Quoted c.in-Quoted.field-0 ∷ c.next.new.tokens.items = c.in-Some.ensures ∙ ap (λ k. k ∷ c.next.new.tokens.items) c.in-Quoted.is in
    sym (ap (literal c.args.depth) front ∙ literal-Quoted c.args.depth c.in-Quoted.field-0 c.next.new.tokens.items)

pub marked-returns-in_default : goal.marked-returns-in_default
marked-returns-in_default t c = sym (literal-mark c.args.depth c.args.mark c.args.tokens.now.items c.in_default.not-Bang c.in_default.not-Open)
