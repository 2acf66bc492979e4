use Rattle.std.proofs.Math.Nat.{lt_of_not-le}
use Rattle.std.proofs.Common.{◌≤◌, ◌+◌, arith, Err, ap}
use Rattle.ipam_shared.specs.Passes.{runs_in}
use Rattle.ipam_serve.specs.Faults.{IsGraceOver}
use Rattle.ipam_serve.proofs.Coming.{fed-so, on-err, one-err, sees-none, too-soon-so, took-err}
use Rattle.ipam_serve.proofs.Going.{worn-so}
use Rattle.ipam_serve.proofs.Turning.{took-rest}
use Rattle.ipam_serve.proofs.Wearing.{le_of_not-lt, memory-so, spared-one, worn-few, worn-many}
use Rattle.ipam_serve.proofs.turns.feed.Goals as goal

pub returns-then-left-lt2-clause-not_fed : goal.returns-then-left-lt2-clause-not_fed
returns-then-left-lt2-clause-not_fed g c = took-rest c.args.pass.now

pub returns-in-Ok-clause-fed : goal.returns-in-Ok-clause-fed
returns-in-Ok-clause-fed g c =
    let enough : 2 ≤ c.args.pass.now.left = rw (← c.left.ensures) c.if-left-lt2.false in
    fed-so c.args.pass.now c.feed.new.pass c.in-Ok.entry c.args.at c.args.live.now c.in-Ok.ensures.entry c.in-Ok.ensures.same c.in-Ok.ensures.seen c.in-Ok.ensures.knows c.in-Ok.ensures.left enough c.in-Ok.ensures.lawful.lawful

pub returns-in-Err-clause-fed : goal.returns-in-Err-clause-fed
returns-in-Err-clause-fed g c =
    let enough : 2 ≤ c.args.pass.now.left = rw (← c.left.ensures) c.if-left-lt2.false in
    let sees = sees-none c.args.pass.now c.feed.new.pass c.in-Err.fault c.in-Err.ensures.spent enough c.in-Err.ensures.seen in
    too-soon-so c.args.pass.now c.feed.new.pass c.args.live.now c.args.at c.not_fed.result _ c.not_fed.ensures.too_soon
    (λ since grace e. let t = (c.in-Err.ensures.too_soon since grace).0 (ap Err e) in (t.1, t.2)) c.requires.waits c.in-Err.ensures.same sees
    (took-err c.args.pass.now c.feed.new.pass c.in-Err.fault c.in-Err.ensures.spent enough c.in-Err.ensures.same c.in-Err.ensures.seen c.in-Err.ensures.knows c.in-Err.ensures.left)

pub returns-in-Err-clause-not_fed : goal.returns-in-Err-clause-not_fed
returns-in-Err-clause-not_fed g c =
    let enough : 2 ≤ c.args.pass.now.left = rw (← c.left.ensures) c.if-left-lt2.false in
    on-err c.not_fed.result
    (took-err c.args.pass.now c.feed.new.pass c.in-Err.fault c.in-Err.ensures.spent enough c.in-Err.ensures.same c.in-Err.ensures.seen c.in-Err.ensures.knows c.in-Err.ensures.left)

pub returns-then-left-lt2-clause-worn : goal.returns-then-left-lt2-clause-worn
returns-then-left-lt2-clause-worn g c = worn-few c.args.pass.now (rw (← c.left.ensures) c.if-left-lt2.true)

pub returns-in-Err-clause-worn : goal.returns-in-Err-clause-worn
returns-in-Err-clause-worn g c =
    let enough : 2 ≤ c.args.pass.now.left = rw (← c.left.ensures) c.if-left-lt2.false in
    worn-so c.not_fed.result _ _
    (λ e. worn-many c.args.pass.now c.feed.new.pass (c.in-Err.ensures.worn.0 (ap Err e)).1
    (took-err c.args.pass.now c.feed.new.pass c.in-Err.fault c.in-Err.ensures.spent enough c.in-Err.ensures.same c.in-Err.ensures.seen c.in-Err.ensures.knows c.in-Err.ensures.left))
    c.not_fed.ensures.worn

pub returns-in-Err-clause-memory : goal.returns-in-Err-clause-memory
returns-in-Err-clause-memory g c =
    let enough : 2 ≤ c.args.pass.now.left = rw (← c.left.ensures) c.if-left-lt2.false in
    let one = spared-one c.args.pass.now c.feed.new.pass
    (took-err c.args.pass.now c.feed.new.pass c.in-Err.fault c.in-Err.ensures.spent enough c.in-Err.ensures.same c.in-Err.ensures.seen c.in-Err.ensures.knows c.in-Err.ensures.left)
    (one-err c.args.pass.now c.feed.new.pass c.in-Err.fault c.in-Err.ensures.spent enough c.in-Err.ensures.left) in
    memory-so c.not_fed.result _ _
    (λ none.
    let due : IsGraceOver (runs_in c.args.pass.now) c.args.at = λ grace waits. le_of_not-lt c.args.at (grace.at + grace.grace) (λ soon. let is = (c.in-Err.ensures.too_soon grace.at grace.grace).1 (omega arith, waits, soon) in cc (is, none)) in
    (due, (one, λ grace waits. lt_of_not-le (λ many. let is = c.in-Err.ensures.worn.1 (omega arith, many, grace, waits, due grace waits) in cc (is, none)))))
    c.not_fed.ensures.memory
