use Rattle.ipam_collect.proofs.LiveLemmas.{one_id_more}
use Rattle.ipam_collect.proofs.live.Live.of.Goals as goal

pub loop-id-preserved : goal.loop-id-preserved
loop-id-preserved c = one_id_more c.loop-id.ids c.insert.new.self c.args.list.now c.loop-id.id-index c.id-item.result c.as_str.result c.as_str.ensures c.id-item.is c.loop-id-test.true c.in_ok-insert.ensures.updates c.loop-id.invariant
