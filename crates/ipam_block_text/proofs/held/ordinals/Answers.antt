use Rattle.std.proofs.Common.{◌≡◌, ◌∙◌, ◌+◌, ◌&&◌, ◌^◌, [], ◌∷◌, ◌++◌, true, get_or, drop, nat_lt, ap, ap₂, sym, arith}
use Rattle.std.proofs.lemmas.Bool.Decides.{nat_tests}
use Rattle.std.proofs.lemmas.List.{at_drop_more, take_more}
use Rattle.ipam_block_text.specs.Reading.{are_ordinals}
use Rattle.ipam_block_text.proofs.held.ordinals.Goals as goal

pub loop-number-preserved : goal.loop-number-preserved
loop-number-preserved c =
    let l = c.loop-number in
    let xs = c.args.numbers.now in
    let n = get_or xs l.number-index 0 in
    let within = c.loop-number-test.true in
    let small : nat_lt n (2 ^ 16) ≡ true = grind (arith, nat_tests, c.in-Ok.ensures) in
    let same : c.in-Ok.ordinal ≡ n = grind (arith, c.in-Ok.ensures) in
    record {
      items = c.in_ok-push-in-Ok.ensures.items ∙ ap₂ (λ ys y. ys ++ y ∷ []) l.invariant.items same ∙ sym (take_more xs l.number-index 0 within);
      rest = ap (λ b. b && are_ordinals (drop (l.number-index + 1) xs)) (sym small) ∙ sym (at_drop_more are_ordinals xs l.number-index 0 within) ∙ l.invariant.rest;
    }
