use Rattle.std.proofs.Common.{[], map, ◌∙◌, ap}
use Rattle.std.proofs.lemmas.List.{take_all}
use Rattle.ipam_show.specs.Usage.{pool_usage}
use Rattle.ipam_show.proofs.Steps.{step_map}
use Rattle.ipam_show.proofs.usage.usage_of.Goals as goal

pub loop-pool-preserved : goal.loop-pool-preserved
loop-pool-preserved c =
    let l = c.loop-pool in
    step_map (pool_usage c.args.counts.now) [] c.args.pools.now l.pool-index c.pool-item.result c.in_ok-pool_usage.field-0 l.usage.items c.push.new.self.items c.pool-item.is c.loop-pool-test.true c.in_ok-pool_usage.ensures c.in_ok-push.ensures.items l.invariant

pub returns : goal.returns
returns c =
    let l = c.loop-pool in
    l.invariant ∙ ap (map (pool_usage c.args.counts.now)) (take_all l.pool-index c.args.pools.now c.loop-pool-test.false)
