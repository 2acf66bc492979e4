use Rattle.std.proofs.Common.{◌≤◌, arith}
use Rattle.ipam_serve.proofs.Coming.{knows-err, one-err, sees-none}
use Rattle.ipam_serve.proofs.Looking.{any-one, told-one, worn-one}
use Rattle.ipam_serve.proofs.Routing.{in-feed, told-changes, told-faults}
use Rattle.ipam_serve.proofs.Wearing.{memory-so}
use Rattle.ipam_serve.proofs.turns.routes_since.Goals as goal

pub returns-then-left-lt2-clause-turn : goal.returns-then-left-lt2-clause-turn
returns-then-left-lt2-clause-turn g c = worn-one c.args.pass.now (rw (← c.left.ensures) c.if-left-lt2.true)

pub returns-in-Ok-clause-turn : goal.returns-in-Ok-clause-turn
returns-in-Ok-clause-turn g c =
    let enough : 2 ≤ c.args.pass.now.left = rw (← c.left.ensures) c.if-left-lt2.false in
    told-one c.args.pass.now c.routes_since.new.pass c.in-Ok.ensures.same c.in-Ok.ensures.seen c.in-Ok.ensures.knows c.in-Ok.ensures.left enough _

pub returns-in-Err-clause-turn : goal.returns-in-Err-clause-turn
returns-in-Err-clause-turn g c =
    let enough : 2 ≤ c.args.pass.now.left = rw (← c.left.ensures) c.if-left-lt2.false in
    any-one c.args.pass.now c.routes_since.new.pass c.in-Err.ensures.same
    (sees-none c.args.pass.now c.routes_since.new.pass c.in-Err.fault c.in-Err.ensures.spent enough c.in-Err.ensures.seen)
    (knows-err c.args.pass.now c.routes_since.new.pass c.in-Err.fault c.in-Err.ensures.spent enough c.in-Err.ensures.knows)
    (one-err c.args.pass.now c.routes_since.new.pass c.in-Err.fault c.in-Err.ensures.spent enough c.in-Err.ensures.left) enough
    c.not_told.result c.not_told.ensures.memory

pub returns-in-Ok-clause-told : goal.returns-in-Ok-clause-told
returns-in-Ok-clause-told g c =
    let enough : 2 ≤ c.args.pass.now.left = rw (← c.left.ensures) c.if-left-lt2.false in
    rw c.of.ensures (told-changes c.args.pass.now c.routes_since.new.pass c.args.revision (omega arith) _ c.in-Ok.counter c.in-Ok.changes.items c.in-Ok.ensures.compacted c.in-Ok.ensures.ahead c.in-Ok.ensures.changes)

pub returns-in-Err-clause-told : goal.returns-in-Err-clause-told
returns-in-Err-clause-told g c =
    let enough : 2 ≤ c.args.pass.now.left = rw (← c.left.ensures) c.if-left-lt2.false in
    told-faults c.args.pass.now c.routes_since.new.pass c.args.revision (omega arith) c.in-Err.fault c.not_told.result c.in-Err.ensures.compacted c.in-Err.ensures.ahead c.not_told.ensures.told

pub returns-in-Err-clause-memory : goal.returns-in-Err-clause-memory
returns-in-Err-clause-memory g c =
    let enough : 2 ≤ c.args.pass.now.left = rw (← c.left.ensures) c.if-left-lt2.false in
    let one = one-err c.args.pass.now c.routes_since.new.pass c.in-Err.fault c.in-Err.ensures.spent enough c.in-Err.ensures.left in
    memory-so c.not_told.result _ _ (λ feed. (omega arith, feed))
    (in-feed c.args.pass.now c.routes_since.new.pass c.args.revision (omega arith) c.in-Err.fault c.not_told.result c.in-Err.ensures.compacted c.in-Err.ensures.ahead c.not_told.ensures.want_of_memory)
