use Rattle.std.proofs.Common.{sym, subst}
use Rattle.ipam_show.specs.Json.{pool_shown_data}
use Rattle.ipam_json.proofs.Steps.{written_more, written_all}
use Rattle.std.proofs.lemmas.List.Elements.{All-get_or}
use Rattle.ipam_show.specs.Left.{IsOfSlots}
use Rattle.ipam_show.proofs.json_shown.list_value.Goals as goal

pub loop-pool-preserved : goal.loop-pool-preserved
loop-pool-preserved c =
    let l = c.loop-pool in
    written_more (pool_shown_data c.args.counts.now) c.args.pools.now l.pool-index c.pool-item.result c.in_ok-pool_value.field-0 l.list.items c.push.new.self.items c.loop-pool-test.true c.pool-item.is c.in_ok-pool_value.ensures c.in_ok-push.ensures.items l.invariant

pub returns : goal.returns
returns c =
    let l = c.loop-pool in
    written_all (pool_shown_data c.args.counts.now) c.args.pools.now l.pool-index l.list c.loop-pool-test.false l.invariant

pub pool_value-requires-clause-slots : goal.pool_value-requires-clause-slots
pool_value-requires-clause-slots c =
    let pools = c.args.pools.now in
    subst (λ pool. IsOfSlots pool) (sym c.pool-item.is) (All-get_or IsOfSlots pools c.loop-pool.pool-index c.pool-item.result c.loop-pool-test.true c.requires.slots)
