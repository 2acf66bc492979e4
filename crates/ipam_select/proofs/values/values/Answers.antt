use Rattle.std.proofs.Common.{◌≡◌, ℕ, List, Some, sym, ap, ◌∙◌}
use Rattle.ipam_select.specs.Reading.{behind_mark, value, values}
use Rattle.ipam_select.specs.declared.token.Mark.TheVariants.{Comma}
use Rattle.ipam_select.proofs.Phrases.{values_more}
use Rattle.ipam_select.proofs.values.values.Goals as goal

pub loop-text-preserved : goal.loop-text-preserved
loop-text-preserved c =
    let l = c.loop-text in
    let rest = c.take_value.new.tokens.items in
    let more = c.take-in-loop-text.new.tokens.items in
    let found : value l.tokens.items ≡ Some (c.in-Some.text, rest) = sym c.in-Some.ensures in
    let comma : behind_mark Comma rest ≡ Some more = ap (behind_mark Comma) (sym c.if-take.ensures.1) ∙ c.if-not-take.ensures in
    ap (λ (vs : List (List ℕ)). values vs more) c.in_ok-put.ensures ∙ sym (values_more l.all.items l.tokens.items c.in-Some.text rest more found comma) ∙ l.invariant
