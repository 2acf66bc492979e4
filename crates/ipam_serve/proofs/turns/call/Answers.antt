use Rattle.std.proofs.Common.{◌≤◌, arith, Err, ap}
use Rattle.ipam_shared.specs.Passes.{runs_in}
use Rattle.ipam_serve.proofs.Coming.{called-so, on-err, one-err, sees-none, took-err, waits-called}
use Rattle.ipam_serve.proofs.Going.{worn-so}
use Rattle.ipam_serve.proofs.Turning.{took-rest}
use Rattle.ipam_serve.proofs.Slots.{running-so}
use Rattle.ipam_serve.proofs.Wearing.{found-room, memory-so, worn-few, worn-many}
use Rattle.ipam_serve.proofs.Keeping.{makes-call, makes-none, makes-nothing}
use Rattle.ipam_serve.proofs.turns.call.Goals as goal

pub returns-then-left-lt2-clause-not_called : goal.returns-then-left-lt2-clause-not_called
returns-then-left-lt2-clause-not_called g c = took-rest c.args.pass.now

pub returns-in-Ok-clause-called : goal.returns-in-Ok-clause-called
returns-in-Ok-clause-called g c =
    let enough : 2 ≤ c.args.pass.now.left = rw (← c.left.ensures) c.if-left-lt2.false in
    rw c.told.ensures
    (called-so g.D.Keeper.given g.D.Keeper.faults c.in-Ok.ensures.turned.before c.in-Ok.ensures.turned.after c.args.pass.now c.turn.new.pass c.in-Ok.entry
    c.in-Ok.ensures.turned.deed c.in-Ok.ensures.same c.in-Ok.ensures.seen c.in-Ok.ensures.knows c.in-Ok.ensures.left enough c.in-Ok.ensures.lawful.lawful)

pub returns-in-Err-clause-called : goal.returns-in-Err-clause-called
returns-in-Err-clause-called g c =
    let enough : 2 ≤ c.args.pass.now.left = rw (← c.left.ensures) c.if-left-lt2.false in
    let sees = sees-none c.args.pass.now c.turn.new.pass c.in-Err.fault c.in-Err.ensures.spent enough c.in-Err.ensures.seen in
    waits-called c.args.pass.now c.turn.new.pass c.not_called.result _ c.not_called.ensures.waits
    (λ e. (c.in-Err.ensures.waiting.0 (ap Err e)).1) c.in-Err.ensures.same sees
    (took-err c.args.pass.now c.turn.new.pass c.in-Err.fault c.in-Err.ensures.spent enough c.in-Err.ensures.same c.in-Err.ensures.seen c.in-Err.ensures.knows c.in-Err.ensures.left)

pub returns-in-Err-clause-not_called : goal.returns-in-Err-clause-not_called
returns-in-Err-clause-not_called g c =
    let enough : 2 ≤ c.args.pass.now.left = rw (← c.left.ensures) c.if-left-lt2.false in
    on-err c.not_called.result
    (took-err c.args.pass.now c.turn.new.pass c.in-Err.fault c.in-Err.ensures.spent enough c.in-Err.ensures.same c.in-Err.ensures.seen c.in-Err.ensures.knows c.in-Err.ensures.left)

pub returns-then-left-lt2-clause-keeper : goal.returns-then-left-lt2-clause-keeper
returns-then-left-lt2-clause-keeper g c = makes-nothing g.D.Keeper.rows g.D.Keeper.given g.D.Keeper.faults c.args.pass.now

pub returns-in-Ok-clause-keeper : goal.returns-in-Ok-clause-keeper
returns-in-Ok-clause-keeper g c =
    makes-call g.D.Keeper.rows g.D.Keeper.given g.D.Keeper.faults c.args.pass.now c.turn.new.pass c.in-Ok.entry c.in-Ok.ensures.same c.in-Ok.ensures.seen c.in-Ok.ensures.lawful.lawful c.in-Ok.ensures.turned

pub returns-in-Err-clause-keeper : goal.returns-in-Err-clause-keeper
returns-in-Err-clause-keeper g c =
    let enough : 2 ≤ c.args.pass.now.left = rw (← c.left.ensures) c.if-left-lt2.false in
    makes-none g.D.Keeper.rows g.D.Keeper.given g.D.Keeper.faults c.args.pass.now c.turn.new.pass 1
    (took-err c.args.pass.now c.turn.new.pass c.in-Err.fault c.in-Err.ensures.spent enough c.in-Err.ensures.same c.in-Err.ensures.seen c.in-Err.ensures.knows c.in-Err.ensures.left)

pub returns-then-left-lt2-clause-worn : goal.returns-then-left-lt2-clause-worn
returns-then-left-lt2-clause-worn g c = worn-few c.args.pass.now (rw (← c.left.ensures) c.if-left-lt2.true)

pub returns-in-Err-clause-worn : goal.returns-in-Err-clause-worn
returns-in-Err-clause-worn g c =
    let enough : 2 ≤ c.args.pass.now.left = rw (← c.left.ensures) c.if-left-lt2.false in
    worn-so c.not_called.result _ _
    (λ e. worn-many c.args.pass.now c.turn.new.pass (c.in-Err.ensures.worn.0 (ap Err e)).1
    (took-err c.args.pass.now c.turn.new.pass c.in-Err.fault c.in-Err.ensures.spent enough c.in-Err.ensures.same c.in-Err.ensures.seen c.in-Err.ensures.knows c.in-Err.ensures.left))
    c.not_called.ensures.worn

pub returns-in-Err-clause-memory : goal.returns-in-Err-clause-memory
returns-in-Err-clause-memory g c =
    let enough : 2 ≤ c.args.pass.now.left = rw (← c.left.ensures) c.if-left-lt2.false in
    memory-so c.not_called.result _ _
    (λ none. found-room c.args.pass.now c.turn.new.pass
    (λ many.
    let runs = running-so (runs_in c.args.pass.now) c.requires.runs (λ waits. let is = c.in-Err.ensures.waiting.1 (omega arith, waits) in cc (is, none)) in
    let is = c.in-Err.ensures.worn.1 (omega arith, many, runs) in cc (is, none))
    (took-err c.args.pass.now c.turn.new.pass c.in-Err.fault c.in-Err.ensures.spent enough c.in-Err.ensures.same c.in-Err.ensures.seen c.in-Err.ensures.knows c.in-Err.ensures.left)
    (one-err c.args.pass.now c.turn.new.pass c.in-Err.fault c.in-Err.ensures.spent enough c.in-Err.ensures.left))
    c.not_called.ensures.memory
