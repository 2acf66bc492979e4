use Rattle.ipam_serve.proofs.Going.{memory-halts}
use Rattle.ipam_serve.proofs.Outcomes.{comes-told, comes-untold}
use Rattle.ipam_serve.proofs.lines.tell_run.Goals as goal

pub returns-in-Ok-clause-comes : goal.returns-in-Ok-clause-comes
returns-in-Ok-clause-comes g c =
    comes-told g.D.Keeper.rows g.D.Keeper.given g.D.Keeper.faults (record { pass = c.args.pass.now; turns = g.G.SessionGate.turns c.args.gate.now }) (record { pass = c.run_call.new.pass; turns = g.G.SessionGate.turns c.run_call.new.gate })
    c.args.request.now c.args.version c.in-Ok.answer c.call_reply.result c.in-Ok.ensures.ran c.in-Ok.ensures.idle c.run_call.ensures.keeper c.call_reply.ensures.told c.call_reply.ensures.memory

pub returns-in-Ok-clause-stops : goal.returns-in-Ok-clause-stops
returns-in-Ok-clause-stops g c = memory-halts c.call_reply.result _ _ c.call_reply.ensures.memory c.in-Ok.ensures.stops

pub returns-in-Err-clause-comes : goal.returns-in-Err-clause-comes
returns-in-Err-clause-comes g c =
    comes-untold g.D.Keeper.rows g.D.Keeper.given g.D.Keeper.faults (record { pass = c.args.pass.now; turns = g.G.SessionGate.turns c.args.gate.now }) (record { pass = c.run_call.new.pass; turns = g.G.SessionGate.turns c.run_call.new.gate })
    c.args.request.now c.args.version c.in-Err.broken c.in-Err.ensures.broken c.in-Err.ensures.worn c.in-Err.ensures.unanswered c.in-Err.ensures.memory c.run_call.ensures.keeper
