use Rattle.std.proofs.Common.{◌∙◌, Some, ap, sym}
use Rattle.ipam_block_text.specs.Reading.{place_in}
use Rattle.ipam_block_text.proofs.Each.{value_more, value_done}
use Rattle.ipam_block_text.proofs.form.each_place.Goals as goal

pub loop-item-preserved : goal.loop-item-preserved
loop-item-preserved c =
    let l = c.loop-item in
    value_more place_in c.args.items.now l.item-index c.item-item.result c.in-Some.place l.places.items c.push.new.self.items _ c.loop-item-test.true c.item-item.is (sym c.place_in.ensures ∙ c.in-Some.is) c.in_ok-push-in-Some.ensures.items l.invariant

pub returns : goal.returns
returns c =
    let l = c.loop-item in
    ap Some c.of.ensures ∙ value_done place_in c.args.items.now l.item-index l.places.items _ c.loop-item-test.false l.invariant
