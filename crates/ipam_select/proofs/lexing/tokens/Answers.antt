use Rattle.std.proofs.Common.{◌≡◌, ℕ, List, ◌-◌, ◌<◌, Some, None, length, sym, ap, ap₂, ◌∙◌, arith}
use Rattle.std.proofs.lemmas.Bool.Decides.{nat_tests}
use Rattle.ipam_select.specs.Lexing.{first_token, tokens_step, tokens_within}
use Rattle.ipam_select.specs.declared.token.Token.{Token}
use Rattle.ipam_select.proofs.Cutting.{tokens_before, tokens_begin, tokens_go, tokens_fail, tokens_end, cut_shorter, blanks_shorter}
use Rattle.ipam_select.proofs.lexing.tokens.Goals as goal

pub loop-rest-init : goal.loop-rest-init
loop-rest-init c =
    let text = c.args.text.now in
    let e = c.after_blanks-rest.ensures in (
      length text,
      omega (arith, blanks_shorter text, ap length e),
      tokens_begin text ∙ ap₂ (λ (all : List Token) (rest : List ℕ). tokens_before all (tokens_step (tokens_within (length text)) rest)) (sym c.new-all.ensures.items) (sym e),
    )

pub returns-in_default : goal.returns-in_default
returns-in_default c =
    let rest = c.loop-rest.rest.now in
    let none : first_token rest ≡ None = grind (arith, c.in_ok-token.ensures) in
    let some : 0 < length rest = grind (arith, nat_tests) in
    sym (c.loop-rest.invariant.2 ∙ tokens_fail c.loop-rest.all.items c.loop-rest.invariant.0 rest some none)

pub loop-rest-smaller : goal.loop-rest-smaller
loop-rest-smaller c =
    let rest = c.loop-rest.rest.now in
    let found : first_token rest ≡ Some (c.in-Some.token, c.in-Some.after.now) = grind (arith, c.in_ok-token.ensures) in
    omega (arith, cut_shorter rest (c.in-Some.token, c.in-Some.after.now) found, blanks_shorter c.in-Some.after.now, ap length c.after_blanks-rest-in-loop-rest.ensures)

pub loop-rest-preserved : goal.loop-rest-preserved
loop-rest-preserved c =
    let rest = c.loop-rest.rest.now in
    let cut : Token × List ℕ = (c.in-Some.token, c.in-Some.after.now) in
    let found : first_token rest ≡ Some cut = grind (arith, c.in_ok-token.ensures) in
    let n = c.loop-rest.invariant.0 in
    let e = c.after_blanks-rest-in-loop-rest.ensures in (
      n - 1,
      omega (arith, c.loop-rest.invariant.1, cut_shorter rest cut found, blanks_shorter c.in-Some.after.now, ap length e),
      c.loop-rest.invariant.2 ∙ tokens_go c.loop-rest.all.items n rest cut c.loop-rest.invariant.1 found
          ∙ ap₂ (λ (all : List Token) (left : List ℕ). tokens_before all (tokens_step (tokens_within (n - 1)) left)) (sym c.in_ok-push_back.ensures.items) (sym e),
    )

pub returns : goal.returns
returns c =
    let rest = c.loop-rest.rest.now in
    let none : length rest ≡ 0 = grind (arith, nat_tests) in
    sym (c.loop-rest.invariant.2 ∙ tokens_end c.loop-rest.all.items c.loop-rest.invariant.0 rest none)
