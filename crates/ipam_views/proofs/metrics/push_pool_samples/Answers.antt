use Rattle.std.proofs.Common.{◌++◌, refl, sym, subst}
use Rattle.std.specs.String.{string_bytes}
use Rattle.std.proofs.lemmas.List.Elements.{All-get_or}
use Rattle.ipam_show.specs.Left.{IsOfSlots}
use Rattle.ipam_show.proofs.Steps.{step_list}
use Rattle.ipam_views.specs.Metrics.{pool_sample, pool_samples}
use Rattle.ipam_views.proofs.metrics.push_pool_samples.Goals as goal

pub loop-pool-preserved : goal.loop-pool-preserved
loop-pool-preserved c =
    let l = c.loop-pool in
    let counts = c.args.counts.now in
    let all = string_bytes c.args.text.now ++ pool_samples c.args.metric counts c.args.pools.now in
    step_list (pool_samples c.args.metric counts) (pool_sample c.args.metric counts) (λ x xs. refl) c.args.pools.now l.pool-index c.pool-item.result c.pool-item.is c.loop-pool-test.true (string_bytes l.text) (string_bytes c.push_pool_sample.new.text) all l.invariant c.in_ok-push_pool_sample.ensures

pub push_pool_sample-requires-clause-slots : goal.push_pool_sample-requires-clause-slots
push_pool_sample-requires-clause-slots c =
    subst (λ pool. IsOfSlots pool) (sym c.pool-item.is) (All-get_or IsOfSlots c.args.pools.now c.loop-pool.pool-index c.pool-item.result c.loop-pool-test.true c.requires.slots)
