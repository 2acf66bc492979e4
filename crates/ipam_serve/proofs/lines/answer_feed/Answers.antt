use Rattle.std.proofs.Common.{◌≡◌, None, Some, true}
use Rattle.ipam_session.specs.declared.wish.Wish.TheVariants as wish
use Rattle.ipam_shared.specs.Passes.{runs_in}
use Rattle.ipam_serve.specs.Gains.{is_waiting}
use Rattle.ipam_serve.specs.Lines.{server_at}
use Rattle.ipam_serve.proofs.LineParts.{feed-idle, none-waits, rests-none, rests-waits}
use Rattle.ipam_serve.proofs.Outcomes.{comes-fed, comes-nothing, comes-unfed}
use Rattle.ipam_serve.proofs.Admitting.{admits-nothing}
use Rattle.ipam_serve.proofs.lines.answer_feed.Goals as goal

pub run_feed-requires-clause-waits : goal.run_feed-requires-clause-waits
run_feed-requires-clause-waits g c = rests-waits (runs_in c.args.pass.now) c.running.result c.requires.rests c.running.ensures c.if-not-running.false

pub returns-then-not-running-clause-comes : goal.returns-then-not-running-clause-comes
returns-then-not-running-clause-comes g c =
    comes-nothing g.D.Keeper.rows g.D.Keeper.given g.D.Keeper.faults (server_at c.args.pass.now (g.G.SessionGate.turns c.args.gate.now) (g.C.Clock.ahead c.args.clock.now)) (Some (wish.Feed c.args.live.now)) _ c.requires.rests
    (feed-idle (server_at c.args.pass.now (g.G.SessionGate.turns c.args.gate.now) (g.C.Clock.ahead c.args.clock.now)) c.args.live.now
    (none-waits _ (rests-none (runs_in c.args.pass.now) c.running.result c.running.ensures c.if-not-running.true)))

pub returns-in-Ok-Some-clause-comes : goal.returns-in-Ok-Some-clause-comes
returns-in-Ok-Some-clause-comes g c =
    let waits : is_waiting (runs_in c.args.pass.now) ≡ true = rests-waits (runs_in c.args.pass.now) c.running.result c.requires.rests c.running.ensures c.if-not-running.false in
    comes-fed g.D.Keeper.rows g.D.Keeper.given g.D.Keeper.faults (server_at c.args.pass.now (g.G.SessionGate.turns c.args.gate.now) (g.C.Clock.ahead c.args.clock.now))
    (server_at c.run_feed.new.pass (g.G.SessionGate.turns c.run_feed.new.gate) (g.C.Clock.ahead c.now-at.new.self))
    c.args.live.now c.now-at.result waits c.now-at.ensures c.run_feed.ensures.keeper (Some c.in-Ok-Some.answer) (rw c.in-Ok-Some.field-0-is at c.in-Ok-Some.ensures.fed)

pub returns-in-Ok-None-clause-comes : goal.returns-in-Ok-None-clause-comes
returns-in-Ok-None-clause-comes g c =
    let waits : is_waiting (runs_in c.args.pass.now) ≡ true = rests-waits (runs_in c.args.pass.now) c.running.result c.requires.rests c.running.ensures c.if-not-running.false in
    comes-fed g.D.Keeper.rows g.D.Keeper.given g.D.Keeper.faults (server_at c.args.pass.now (g.G.SessionGate.turns c.args.gate.now) (g.C.Clock.ahead c.args.clock.now))
    (server_at c.run_feed.new.pass (g.G.SessionGate.turns c.run_feed.new.gate) (g.C.Clock.ahead c.now-at.new.self))
    c.args.live.now c.now-at.result waits c.now-at.ensures c.run_feed.ensures.keeper None (rw c.in-Ok-None.field-0-is at c.in-Ok-None.ensures.fed)

pub returns-in-Err-clause-comes : goal.returns-in-Err-clause-comes
returns-in-Err-clause-comes g c =
    let waits : is_waiting (runs_in c.args.pass.now) ≡ true = rests-waits (runs_in c.args.pass.now) c.running.result c.requires.rests c.running.ensures c.if-not-running.false in
    comes-unfed g.D.Keeper.rows g.D.Keeper.given g.D.Keeper.faults (server_at c.args.pass.now (g.G.SessionGate.turns c.args.gate.now) (g.C.Clock.ahead c.args.clock.now))
    (server_at c.run_feed.new.pass (g.G.SessionGate.turns c.run_feed.new.gate) (g.C.Clock.ahead c.now-at.new.self))
    c.args.live.now c.now-at.result waits c.now-at.ensures c.run_feed.ensures.keeper c.in-Err.broken c.in-Err.ensures.broken c.in-Err.ensures.worn c.in-Err.ensures.runs c.in-Err.ensures.memory

pub returns-then-not-running-clause-admitted : goal.returns-then-not-running-clause-admitted
returns-then-not-running-clause-admitted g c = admits-nothing g.G.SessionGate.admits c.args.pass.now
