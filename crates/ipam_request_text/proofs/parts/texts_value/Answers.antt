use Rattle.std.proofs.Common.{◌∙◌, ap}
use Rattle.serde_json.specs.Data.{string}
use Rattle.ipam_json.proofs.Steps.{written_more, written_all}
use Rattle.ipam_request_text.proofs.parts.texts_value.Goals as goal

pub loop-text-preserved : goal.loop-text-preserved
loop-text-preserved c =
    let l = c.loop-text in
    written_more string c.args.texts.now l.text-index c.text-item.result c.in_ok-try_from_str.field-0 l.list.items c.push.new.self.items c.loop-text-test.true c.text-item.is (c.in_ok-try_from_str.ensures ∙ ap string c.as_str.ensures) c.in_ok-push.ensures.items l.invariant

pub returns : goal.returns
returns c =
    let l = c.loop-text in
    written_all string c.args.texts.now l.text-index l.list c.loop-text-test.false l.invariant
