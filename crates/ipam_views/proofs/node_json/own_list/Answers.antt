use Rattle.ipam_json.proofs.Steps.{written_more, written_all}
use Rattle.ipam_views.specs.Node.{own_data}
use Rattle.ipam_views.proofs.node_json.own_list.Goals as goal

pub loop-count-preserved : goal.loop-count-preserved
loop-count-preserved c =
    let l = c.loop-count in
    written_more (own_data c.args.store.now.store) c.args.counts.now l.count-index c.count-item.result c.in_ok-own_value.field-0 l.list.items c.push.new.self.items c.loop-count-test.true c.count-item.is c.in_ok-own_value.ensures c.in_ok-push.ensures.items l.invariant

pub returns : goal.returns
returns c =
    let l = c.loop-count in
    written_all (own_data c.args.store.now.store) c.args.counts.now l.count-index l.list c.loop-count-test.false l.invariant
