use Rattle.ipam_session.specs.Replies.{pool_usage_data, usage_data}
use Rattle.ipam_json.proofs.Steps.{written_more, written_all}
use Rattle.ipam_session.proofs.replies.usage_value.Goals as goal

pub loop-pool-preserved : goal.loop-pool-preserved
loop-pool-preserved c =
    let l = c.loop-pool in
    written_more pool_usage_data c.args.pools.now l.pool-index c.pool-item.result c.in_ok-pool_value.field-0 l.list.items c.push.new.self.items c.loop-pool-test.true c.pool-item.is c.in_ok-pool_value.ensures c.in_ok-push.ensures.items l.invariant

pub returns : goal.returns
unfolding usage_data
returns c =
    let l = c.loop-pool in
    let all = written_all pool_usage_data c.args.pools.now l.pool-index l.list c.loop-pool-test.false l.invariant in
    rw (all, c.from.ensures) at c.two_members.ensures
