use Rattle.ipam_answer_text.specs.Answers.{item_data}
use Rattle.ipam_json.proofs.Steps.{written_more, written_all}
use Rattle.ipam_answer_text.proofs.parts.items_value.Goals as goal

pub loop-item-preserved : goal.loop-item-preserved
loop-item-preserved c =
    let l = c.loop-item in
    written_more item_data c.args.items.now l.item-index c.item-item.result c.in_ok-item_value.field-0 l.list.items c.push.new.self.items c.loop-item-test.true c.item-item.is c.in_ok-item_value.ensures c.in_ok-push.ensures.items l.invariant

pub returns : goal.returns
returns c =
    let l = c.loop-item in
    written_all item_data c.args.items.now l.item-index l.list c.loop-item-test.false l.invariant
