use Rattle.std.proofs.Common.{◌≡◌, Some, None, IfOk, option_map, option_and_then, sym, ap, subst, arith}
use Rattle.ipam_select.specs.Formula.{formula}
use Rattle.ipam_select.specs.Lexing.{tokens}
use Rattle.ipam_select.specs.Reading.{whole, reading}
use Rattle.ipam_select.proofs.reading.reading.Goals as goal

pub returns-in_default : goal.returns-in_default
unfolding reading
returns-in_default c =
    let none : tokens c.args.text.now ≡ None = grind (arith, c.in_ok-tokens.ensures) in
    sym (ap (option_and_then whole) none)

pub returns : goal.returns
unfolding reading
returns c =
    let found : tokens c.args.text.now ≡ Some c.in-Some.tokens.items = grind (arith, c.in_ok-tokens.ensures) in
    subst (λ r. IfOk c.whole.result (λ found. option_map formula found ≡ r)) (sym (ap (option_and_then whole) found)) c.whole.ensures
