use Rattle.std.proofs.Common.{Some, inl, refl}
use Rattle.ipam_session.specs.declared.wish.Wish.TheVariants as wish
use Rattle.ipam_shared.specs.Passes.{runs_in}
use Rattle.ipam_serve.proofs.LineParts.{call-timeless, call-told, call-waiting, none-waits, rests-none, rests-waits}
use Rattle.ipam_serve.proofs.Outcomes.{comes-called, comes-memory, comes-nothing}
use Rattle.ipam_serve.proofs.Admitting.{admits-nothing}
use Rattle.ipam_serve.proofs.lines.answer_call.Goals as goal
use Rattle.ipam_serve.specs.Lines.{server_at}

pub returns-then-running-clause-comes : goal.returns-then-running-clause-comes
returns-then-running-clause-comes g c =
    comes-nothing g.D.Keeper.rows g.D.Keeper.given g.D.Keeper.faults (server_at c.args.pass.now (g.G.SessionGate.turns c.args.gate.now) (g.C.Clock.ahead c.args.clock.now)) (Some (wish.Cni c.args.env c.args.stdin)) _ c.requires.rests
    (call-waiting (server_at c.args.pass.now (g.G.SessionGate.turns c.args.gate.now) (g.C.Clock.ahead c.args.clock.now)) c.args.env c.args.stdin
    (rests-waits (runs_in c.args.pass.now) c.running.result c.requires.rests c.running.ensures c.if-running.true))

pub returns-in-Ok-Told-clause-comes : goal.returns-in-Ok-Told-clause-comes
returns-in-Ok-Told-clause-comes g c =
    comes-nothing g.D.Keeper.rows g.D.Keeper.given g.D.Keeper.faults (server_at c.args.pass.now (g.G.SessionGate.turns c.args.gate.now) (g.C.Clock.ahead c.args.clock.now)) (Some (wish.Cni c.args.env c.args.stdin)) _ c.requires.rests
    (call-told (server_at c.args.pass.now (g.G.SessionGate.turns c.args.gate.now) (g.C.Clock.ahead c.args.clock.now)) c.args.env c.args.stdin
    (none-waits _ (rests-none (runs_in c.args.pass.now) c.running.result c.running.ensures c.if-running.false))
    c.in-Ok-Told.status c.in-Ok-Told.text (rw c.in-Ok-Told.field-0-is at c.in-Ok-Told.ensures.begun))

pub tell_run-requires-clause-idle : goal.tell_run-requires-clause-idle
tell_run-requires-clause-idle g c = rests-none (runs_in c.args.pass.now) c.running.result c.running.ensures c.if-running.false

pub tell_run-requires-clause-sound : goal.tell_run-requires-clause-sound
tell_run-requires-clause-sound g c = rw c.in-Ok-Runs.field-0-is at c.in-Ok-Runs.ensures.sound

pub tell_run-requires-clause-of_call : goal.tell_run-requires-clause-of_call
tell_run-requires-clause-of_call g c = rw c.in-Ok-Runs.field-0-is at c.in-Ok-Runs.ensures.of_call

pub tell_run-requires-clause-timeless : goal.tell_run-requires-clause-timeless
tell_run-requires-clause-timeless g c =
    call-timeless c.args.env c.args.stdin c.in-Ok-Runs.request c.in-Ok-Runs.version (rw c.in-Ok-Runs.field-0-is at c.in-Ok-Runs.ensures.begun)

pub returns-in-Ok-Runs-clause-comes : goal.returns-in-Ok-Runs-clause-comes
returns-in-Ok-Runs-clause-comes g c =
    comes-called g.D.Keeper.rows g.D.Keeper.given g.D.Keeper.faults (server_at c.args.pass.now (g.G.SessionGate.turns c.args.gate.now) (g.C.Clock.ahead c.args.clock.now)) c.args.env c.args.stdin
    (record { pass = c.tell_run.new.pass; turns = g.G.SessionGate.turns c.tell_run.new.gate })
    c.in-Ok-Runs.request c.in-Ok-Runs.version c.tell_run.result
    (none-waits _ (rests-none (runs_in c.args.pass.now) c.running.result c.running.ensures c.if-running.false))
    (rw c.in-Ok-Runs.field-0-is at c.in-Ok-Runs.ensures.begun) c.tell_run.ensures.comes

pub returns-in-Err-clause-comes : goal.returns-in-Err-clause-comes
returns-in-Err-clause-comes g c = comes-memory g.D.Keeper.rows g.D.Keeper.given g.D.Keeper.faults (server_at c.args.pass.now (g.G.SessionGate.turns c.args.gate.now) (g.C.Clock.ahead c.args.clock.now)) (Some (wish.Cni c.args.env c.args.stdin)) (inl refl)

pub returns-then-running-clause-admitted : goal.returns-then-running-clause-admitted
returns-then-running-clause-admitted g c = admits-nothing g.G.SessionGate.admits c.args.pass.now

pub returns-in-Ok-Told-clause-admitted : goal.returns-in-Ok-Told-clause-admitted
returns-in-Ok-Told-clause-admitted g c = admits-nothing g.G.SessionGate.admits c.args.pass.now

pub returns-in-Err-clause-admitted : goal.returns-in-Err-clause-admitted
returns-in-Err-clause-admitted g c = admits-nothing g.G.SessionGate.admits c.args.pass.now
