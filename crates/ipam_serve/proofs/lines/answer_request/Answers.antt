use Rattle.std.proofs.Common.{Some}
use Rattle.ipam_session.specs.declared.wish.Wish.TheVariants as wish
use Rattle.ipam_shared.specs.Passes.{runs_in}
use Rattle.ipam_serve.proofs.LineParts.{none-waits, request-waiting, rests-none, rests-waits}
use Rattle.ipam_serve.proofs.Outcomes.{comes-nothing, comes-ran, comes-unrun}
use Rattle.ipam_serve.proofs.Admitting.{admits-nothing}
use Rattle.ipam_serve.proofs.lines.answer_request.Goals as goal
use Rattle.ipam_serve.specs.Lines.{server_at}

pub returns-then-running-clause-comes : goal.returns-then-running-clause-comes
returns-then-running-clause-comes g c =
    comes-nothing g.D.Keeper.rows g.D.Keeper.given g.D.Keeper.faults (server_at c.args.pass.now (g.G.SessionGate.turns c.args.gate.now) (g.C.Clock.ahead c.args.clock.now)) (Some (wish.Request c.args.request.now)) _ c.requires.rests
    (request-waiting (server_at c.args.pass.now (g.G.SessionGate.turns c.args.gate.now) (g.C.Clock.ahead c.args.clock.now)) c.args.request.now
    (rests-waits (runs_in c.args.pass.now) c.running.result c.requires.rests c.running.ensures c.if-running.true))

pub run_request-requires-clause-idle : goal.run_request-requires-clause-idle
run_request-requires-clause-idle g c = rests-none (runs_in c.args.pass.now) c.running.result c.running.ensures c.if-running.false

pub returns-in-Ok-clause-comes : goal.returns-in-Ok-clause-comes
returns-in-Ok-clause-comes g c =
    rw c.reply_ran.ensures
    (comes-ran g.D.Keeper.rows g.D.Keeper.given g.D.Keeper.faults (server_at c.args.pass.now (g.G.SessionGate.turns c.args.gate.now) (g.C.Clock.ahead c.args.clock.now))
    (server_at c.run_request.new.pass (g.G.SessionGate.turns c.run_request.new.gate) (g.C.Clock.ahead c.set_time-at.new.clock))
    c.args.request.now c.set_time-at.result
    (none-waits _ (rests-none (runs_in c.args.pass.now) c.running.result c.running.ensures c.if-running.false)) c.set_time-at.ensures.reads
    c.run_request.ensures.keeper c.in-Ok.ran _ (rw c.set_time-at.ensures.timed at c.in-Ok.ensures.ran) c.in-Ok.ensures.idle c.in-Ok.ensures.waits)

pub returns-in-Err-clause-comes : goal.returns-in-Err-clause-comes
returns-in-Err-clause-comes g c =
    comes-unrun g.D.Keeper.rows g.D.Keeper.given g.D.Keeper.faults (server_at c.args.pass.now (g.G.SessionGate.turns c.args.gate.now) (g.C.Clock.ahead c.args.clock.now))
    (server_at c.run_request.new.pass (g.G.SessionGate.turns c.run_request.new.gate) (g.C.Clock.ahead c.set_time-at.new.clock))
    c.args.request.now c.set_time-at.result
    (none-waits _ (rests-none (runs_in c.args.pass.now) c.running.result c.running.ensures c.if-running.false)) c.set_time-at.ensures.reads
    c.run_request.ensures.keeper c.in-Err.broken (rw c.set_time-at.ensures.timed at c.in-Err.ensures.broken) c.in-Err.ensures.worn c.in-Err.ensures.unanswered c.in-Err.ensures.memory

pub run_request-requires-clause-sound : goal.run_request-requires-clause-sound
run_request-requires-clause-sound g c = c.set_time-at.ensures.sound c.requires.sound

pub returns-then-running-clause-admitted : goal.returns-then-running-clause-admitted
returns-then-running-clause-admitted g c = admits-nothing g.G.SessionGate.admits c.args.pass.now
