use Rattle.ipam_session.specs.Replies.{changes_data, route_change_data}
use Rattle.ipam_json.proofs.Steps.{written_more, written_all}
use Rattle.ipam_session.proofs.replies.changes_value.Goals as goal

pub loop-change-preserved : goal.loop-change-preserved
loop-change-preserved c =
    let l = c.loop-change in
    written_more route_change_data c.args.changes.now l.change-index c.change-item.result c.in_ok-change_value.field-0 l.list.items c.push.new.self.items c.loop-change-test.true c.change-item.is c.in_ok-change_value.ensures c.in_ok-push.ensures.items l.invariant

pub returns : goal.returns
unfolding changes_data
returns c =
    let l = c.loop-change in
    let all = written_all route_change_data c.args.changes.now l.change-index l.list c.loop-change-test.false l.invariant in
    rw (all, c.from.ensures) at c.two_members.ensures
