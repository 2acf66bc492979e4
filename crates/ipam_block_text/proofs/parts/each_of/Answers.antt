use Rattle.std.proofs.Common.{◌∙◌, [], ◌∷◌, ◌++◌, ap, ap₂, sym}
use Rattle.std.proofs.lemmas.List.{map-append, take_more}
use Rattle.ipam_block_text.specs.Numbering.{borrowed}
use Rattle.ipam_block_text.proofs.parts.each_of.Goals as goal

pub loop-own-preserved : goal.loop-own-preserved
loop-own-preserved c =
    let l = c.loop-own in
    ap borrowed c.in_ok-push.ensures.items ∙ map-append (λ a. a.now) l.each.items (_ ∷ []) ∙ ap₂ (λ ys y. ys ++ y ∷ []) l.invariant c.own-item.is
    ∙ sym (take_more c.args.attributes.now l.own-index c.own-item.result c.loop-own-test.true)
