use Rattle.std.proofs.Common.{◌≡◌, ◌∷◌, [], ◌++◌, arith, ◌∙◌, sym, ap}
use Rattle.std.proofs.lemmas.List.{nil_from_length}
use Rattle.ipam_record_text.specs.Pools.{are_added}
use Rattle.ipam_record_text.proofs.PoolTables.{table_fault, table_whole, one_added}
use Rattle.ipam_record_text.proofs.pools.table_of.Goals as goal

pub returns-in-Err-clause-err : goal.returns-in-Err-clause-err
returns-in-Err-clause-err c =
    let next : c.loop-pool.pool-iterator.rest.items ≡ c.in-Some.pool ∷ c.next.new.self.rest.items = c.in-Some.ensures.steps.0 in
    rw c.refusal_fault.ensures (table_fault c.loop-pool.table c.next.new.self.rest.items c.args.pools.items c.in-Some.pool c.add.result c.in-Err.refusal (ap (are_added c.loop-pool.table) (sym next) ∙ c.loop-pool.invariant.1) c.add.ensures.accepted c.in-Err.is)

pub returns-clause-ok : goal.returns-clause-ok
returns-clause-ok c =
    let none : c.loop-pool.pool-iterator.rest.items ≡ [] = nil_from_length _ (omega (arith, c.in-None.ensures.steps, c.loop-pool.pool-iterator.rest.ok.0)) in
    table_whole c.loop-pool.table c.loop-pool.pool-iterator.rest.items c.args.pools.items none c.loop-pool.invariant.0 c.loop-pool.invariant.1

pub loop-pool-preserved : goal.loop-pool-preserved
loop-pool-preserved c =
    let there = c.loop-pool.table in
    let next : c.loop-pool.pool-iterator.rest.items ≡ c.in-Some.pool ∷ c.next.new.self.rest.items = c.in-Some.ensures.steps.0 in
    one_added there c.add.new.self c.next.new.self.rest.items c.args.pools.items c.in-Some.pool c.add.result _ c.in-Ok.ensures.ok c.add.ensures.refused c.in-Ok.is (ap (λ rest. there ++ rest) (sym next) ∙ c.loop-pool.invariant.0) (ap (are_added there) (sym next) ∙ c.loop-pool.invariant.1)
