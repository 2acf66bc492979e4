use Rattle.ipam_session.specs.Replies.{row_data}
use Rattle.ipam_json.proofs.Steps.{written_more, written_all}
use Rattle.ipam_session.proofs.replies.rows_value.Goals as goal

pub loop-row-preserved : goal.loop-row-preserved
loop-row-preserved c =
    let l = c.loop-row in
    written_more row_data c.args.rows.now l.row-index c.row-item.result c.in_ok-row_value.field-0 l.list.items c.push.new.self.items c.loop-row-test.true c.row-item.is c.in_ok-row_value.ensures c.in_ok-push.ensures.items l.invariant

pub returns : goal.returns
returns c =
    let l = c.loop-row in
    written_all row_data c.args.rows.now l.row-index l.list c.loop-row-test.false l.invariant
