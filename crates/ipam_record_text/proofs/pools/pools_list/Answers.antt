use Rattle.std.proofs.Common.{map, ◌∙◌, ap}
use Rattle.std.proofs.lemmas.List.{take_all}
use Rattle.serde_json.specs.View.{view}
use Rattle.ipam_record_text.specs.Pools.{pool_data}
use Rattle.ipam_json.proofs.Steps.{built_more}
use Rattle.ipam_record_text.proofs.pools.pools_list.Goals as goal

pub loop-pool-init : goal.loop-pool-init
loop-pool-init c = ap (map view) c.new-list.ensures.items

pub loop-pool-preserved : goal.loop-pool-preserved
loop-pool-preserved c = ap (map view) c.in_ok-push.ensures.items ∙ built_more pool_data c.args.pools.now _ _ _ _ c.loop-pool.invariant c.in_ok-json.ensures c.pool-item.is c.loop-pool-test.true

pub returns : goal.returns
returns c = c.loop-pool.invariant ∙ ap (map pool_data) (take_all c.loop-pool.pool-index c.args.pools.now c.loop-pool-test.false)
