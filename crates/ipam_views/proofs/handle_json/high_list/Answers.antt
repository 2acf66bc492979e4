use Rattle.ipam_json.proofs.Steps.{written_more, written_all}
use Rattle.ipam_views.specs.Handle.{high_data}
use Rattle.ipam_views.proofs.handle_json.high_list.Goals as goal

pub loop-high-preserved : goal.loop-high-preserved
loop-high-preserved c =
    let l = c.loop-high in
    written_more high_data c.args.counts.now l.high-index c.high-item.result c.in_ok-high_value.field-0 l.list.items c.push.new.self.items c.loop-high-test.true c.high-item.is c.in_ok-high_value.ensures c.in_ok-push.ensures.items l.invariant

pub returns : goal.returns
returns c =
    let l = c.loop-high in
    written_all high_data c.args.counts.now l.high-index l.list c.loop-high-test.false l.invariant
