use Rattle.std.proofs.Common.{◌≡◌, ◌==◌, false, sym, ◌∙◌, subst, option_map}
use Rattle.std.proofs.lemmas.Bool.Decides.{nat_tests}
use Rattle.std.proofs.Common.{arith, IfOk}
use Rattle.ipam_select.proofs.Cutting.{split_front, first_token-quote, first_token-mark}
use Rattle.ipam_select.proofs.lexing.first_token.Goals as goal

pub returns-then-is_quote : goal.returns-then-is_quote
returns-then-is_quote c =
    let whole = split_front c.args.text.now c.in-Some.first.now c.in-Some.ensures.value in
    let e = first_token-quote c.args.text.now c.in-Some.first.now _ whole (sym c.is_key_byte.ensures ∙ c.if-is_key_byte.false) (sym c.is_quote.ensures ∙ c.if-is_quote.true) in
    subst (λ r. IfOk c.quoted.result (λ found. option_map (λ f. (f.0, f.1.now)) found ≡ r)) (sym e) c.quoted.ensures

pub returns-else-first-eq33 : goal.returns-else-first-eq33
returns-else-first-eq33 c =
    let whole = split_front c.args.text.now c.in-Some.first.now c.in-Some.ensures.value in
    let other : (c.in-Some.first.now == 33) ≡ false = grind (arith, nat_tests) in
    let e = first_token-mark c.args.text.now c.in-Some.first.now _ whole (sym c.is_key_byte.ensures ∙ c.if-is_key_byte.false) (sym c.is_quote.ensures ∙ c.if-is_quote.false) other in
    c.marked.ensures ∙ sym e
