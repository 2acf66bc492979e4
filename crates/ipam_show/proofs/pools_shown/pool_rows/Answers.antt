use Rattle.std.proofs.Common.{[], ◌∷◌, ◌++◌, map, refl, sym, subst, ap, ◌∙◌}
use Rattle.std.proofs.lemmas.List.{take_all}
use Rattle.ipam_show.specs.Pools.{pool_head, pool_row, pools_total}
use Rattle.ipam_show.proofs.Steps.{step_map}
use Rattle.std.proofs.lemmas.List.Elements.{All-get_or}
use Rattle.ipam_show.specs.Left.{IsOfSlots}
use Rattle.ipam_show.proofs.pools_shown.pool_rows.Goals as goal

pub loop-pool-preserved : goal.loop-pool-preserved
loop-pool-preserved c =
    let l = c.loop-pool in
    step_map (pool_row c.args.counts.now) (pool_head ∷ []) c.args.pools.now l.pool-index c.pool-item.result (pool_row c.args.counts.now c.pool-item.result) l.rows.items c.add_pool_row.new.rows.items c.pool-item.is c.loop-pool-test.true refl c.in_ok-add_pool_row.ensures l.invariant

pub returns : goal.returns
returns c =
    let l = c.loop-pool in
    let counts = c.args.counts.now in
    c.in_ok-add_pools_total.ensures
    ∙ ap (λ rows. rows ++ pools_total counts ∷ []) l.invariant
    ∙ ap (λ pools. pool_head ∷ (map (pool_row counts) pools ++ pools_total counts ∷ [])) (take_all l.pool-index c.args.pools.now c.loop-pool-test.false)

pub add_pool_row-requires-clause-slots : goal.add_pool_row-requires-clause-slots
add_pool_row-requires-clause-slots c =
    let pools = c.args.pools.now in
    subst (λ pool. IsOfSlots pool) (sym c.pool-item.is) (All-get_or IsOfSlots pools c.loop-pool.pool-index c.pool-item.result c.loop-pool-test.true c.requires.slots)
