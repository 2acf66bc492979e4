use Rattle.ipam_session.specs.Replies.{route_data, routes_data}
use Rattle.ipam_json.proofs.Steps.{written_more, written_all}
use Rattle.ipam_session.proofs.replies.routes_value.Goals as goal

pub loop-route-preserved : goal.loop-route-preserved
loop-route-preserved c =
    let l = c.loop-route in
    written_more route_data c.args.routes.now l.route-index c.route-item.result c.in_ok-route_value.field-0 l.list.items c.push.new.self.items c.loop-route-test.true c.route-item.is c.in_ok-route_value.ensures c.in_ok-push.ensures.items l.invariant

pub returns : goal.returns
unfolding routes_data
returns c =
    let l = c.loop-route in
    let all = written_all route_data c.args.routes.now l.route-index l.list c.loop-route-test.false l.invariant in
    rw (all, c.from.ensures) at c.two_members.ensures
