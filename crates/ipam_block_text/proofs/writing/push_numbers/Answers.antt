use Rattle.ipam_json.specs.Built.{whole_data}
use Rattle.ipam_block_text.proofs.Written.{item_written, list_ended, on_ok}
use Rattle.ipam_block_text.proofs.writing.push_numbers.Goals as goal

pub loop-number-preserved : goal.loop-number-preserved
loop-number-preserved c =
    let l = c.loop-number in
    item_written whole_data _ _ _ _ l.later c.args.numbers.now l.number-index _ c.loop-number-test.true c.in_ok-push_comma.ensures c.in_ok-push_whole.ensures l.invariant

pub returns : goal.returns
returns c =
    let l = c.loop-number in
    on_ok c.push-2.result c.push-2.ensures (λ last. list_ended whole_data _ _ _ l.later c.args.numbers.now l.number-index c.loop-number-test.false l.invariant last)
