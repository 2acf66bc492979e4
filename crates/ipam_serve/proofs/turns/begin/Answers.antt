use Rattle.std.proofs.Common.{◌≤◌, arith, Err, ap}
use Rattle.ipam_serve.proofs.Coming.{one-err, took-err}
use Rattle.ipam_serve.proofs.Turning.{took-known, took-rest}
use Rattle.ipam_serve.proofs.Wearing.{found-room, memory-found, worn-few, worn-found}
use Rattle.ipam_serve.proofs.turns.begin.Goals as goal

pub returns-then-left-lt2-clause-not_begun : goal.returns-then-left-lt2-clause-not_begun
returns-then-left-lt2-clause-not_begun g c = took-rest c.args.pass.now

pub returns-in-Ok-clause-begun : goal.returns-in-Ok-clause-begun
returns-in-Ok-clause-begun g c =
    let enough : 2 ≤ c.args.pass.now.left = rw (← c.left.ensures) c.if-left-lt2.false in
    took-known c.args.pass.now c.begin.new.pass c.in-Ok.entry _ c.in-Ok.ensures.entry c.in-Ok.ensures.same c.in-Ok.ensures.seen c.in-Ok.ensures.knows c.in-Ok.ensures.left enough

pub returns-in-Err-clause-not_begun : goal.returns-in-Err-clause-not_begun
returns-in-Err-clause-not_begun g c =
    let enough : 2 ≤ c.args.pass.now.left = rw (← c.left.ensures) c.if-left-lt2.false in
    took-err c.args.pass.now c.begin.new.pass c.in-Err.fault c.in-Err.ensures.spent enough c.in-Err.ensures.same c.in-Err.ensures.seen c.in-Err.ensures.knows c.in-Err.ensures.left

pub returns-then-left-lt2-clause-worn : goal.returns-then-left-lt2-clause-worn
returns-then-left-lt2-clause-worn g c = worn-few c.args.pass.now (rw (← c.left.ensures) c.if-left-lt2.true)

pub returns-in-Err-clause-worn : goal.returns-in-Err-clause-worn
returns-in-Err-clause-worn g c =
    let enough : 2 ≤ c.args.pass.now.left = rw (← c.left.ensures) c.if-left-lt2.false in
    worn-found c.not_begun.result c.args.pass.now c.begin.new.pass (λ e. (c.in-Err.ensures.worn.0 (ap Err (c.not_begun.ensures.worn e))).2)
    (took-err c.args.pass.now c.begin.new.pass c.in-Err.fault c.in-Err.ensures.spent enough c.in-Err.ensures.same c.in-Err.ensures.seen c.in-Err.ensures.knows c.in-Err.ensures.left)

pub returns-in-Err-clause-memory : goal.returns-in-Err-clause-memory
returns-in-Err-clause-memory g c =
    let enough : 2 ≤ c.args.pass.now.left = rw (← c.left.ensures) c.if-left-lt2.false in
    memory-found c.not_begun.result _
    (λ e. found-room c.args.pass.now c.begin.new.pass
    (λ many. let is = c.in-Err.ensures.worn.1 (omega arith, c.requires.idle, many) in let none = c.not_begun.ensures.memory e in cc (is, none))
    (took-err c.args.pass.now c.begin.new.pass c.in-Err.fault c.in-Err.ensures.spent enough c.in-Err.ensures.same c.in-Err.ensures.seen c.in-Err.ensures.knows c.in-Err.ensures.left)
    (one-err c.args.pass.now c.begin.new.pass c.in-Err.fault c.in-Err.ensures.spent enough c.in-Err.ensures.left))
