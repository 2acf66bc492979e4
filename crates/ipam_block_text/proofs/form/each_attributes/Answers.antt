use Rattle.std.proofs.Common.{◌∙◌, Some, ap, sym}
use Rattle.ipam_block_text.specs.Reading.{attributes_in}
use Rattle.ipam_block_text.proofs.Each.{value_more, value_done}
use Rattle.ipam_block_text.proofs.form.each_attributes.Goals as goal

pub loop-item-preserved : goal.loop-item-preserved
loop-item-preserved c =
    let l = c.loop-item in
    value_more attributes_in c.args.items.now l.item-index c.item-item.result c.in-Some.attributes l.all.items c.push.new.self.items _ c.loop-item-test.true c.item-item.is (sym c.in_ok-attributes.ensures ∙ c.in-Some.is) c.in_ok-push-in-Some.ensures.items l.invariant

pub returns : goal.returns
returns c =
    let l = c.loop-item in
    ap Some c.of.ensures ∙ value_done attributes_in c.args.items.now l.item-index l.all.items _ c.loop-item-test.false l.invariant
