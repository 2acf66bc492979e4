use Rattle.std.proofs.Common.{◌∙◌, ap}
use Rattle.serde_json.specs.Data.{string}
use Rattle.serde_json.specs.View.{view, members_view}
use Rattle.ipam_block_text.proofs.PairsWritten.{pairs_more, pairs_all}
use Rattle.ipam_request_text.proofs.parts.pairs_value.Goals as goal

pub loop-pair-preserved : goal.loop-pair-preserved
loop-pair-preserved c =
    let l = c.loop-pair in
    pairs_more c.args.pairs.now l.pair-index c.pair-item.result c.as_str-in-loop-pair.result.now (view c.in_ok-value.value) (members_view l.members.entries) (members_view c.put.new.map.entries) c.loop-pair-test.true c.pair-item.is c.as_str-in-loop-pair.ensures (c.in_ok-value.ensures ∙ ap string c.as_str.ensures) c.in_ok-put.ensures.ok l.invariant

pub returns : goal.returns
returns c =
    let l = c.loop-pair in
    pairs_all c.args.pairs.now l.pair-index l.members c.loop-pair-test.false l.invariant
