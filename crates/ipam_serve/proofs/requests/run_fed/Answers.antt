use Rattle.ipam_serve.specs.declared.ran.Ran.TheVariants as ran
use Rattle.ipam_serve.proofs.Onward.{found-halts, goes-found, goes-unfound}
use Rattle.ipam_serve.proofs.requests.run_fed.Goals as goal

pub returns-in-Ok-Answered-clause-went : goal.returns-in-Ok-Answered-clause-went
returns-in-Ok-Answered-clause-went g c =
    goes-found g.D.Keeper.rows g.D.Keeper.given g.D.Keeper.faults (record { pass = c.args.pass.now; turns = g.G.SessionGate.turns c.args.gate.now }) (record { pass = c.run_on.new.pass; turns = g.G.SessionGate.turns c.run_on.new.gate })
    (ran.Answered c.in-Ok-Answered.answer) (rw c.in-Ok-Answered.field-0-is at c.in-Ok-Answered.ensures.went)

pub returns-in-Ok-Answered-clause-stops : goal.returns-in-Ok-Answered-clause-stops
returns-in-Ok-Answered-clause-stops g c = found-halts (ran.Answered c.in-Ok-Answered.answer) _ _ c.in-Ok-Answered.ensures.stops

pub returns-in-Ok-Waits-clause-went : goal.returns-in-Ok-Waits-clause-went
returns-in-Ok-Waits-clause-went g c =
    goes-found g.D.Keeper.rows g.D.Keeper.given g.D.Keeper.faults (record { pass = c.args.pass.now; turns = g.G.SessionGate.turns c.args.gate.now }) (record { pass = c.run_on.new.pass; turns = g.G.SessionGate.turns c.run_on.new.gate })
    ran.Waits (rw c.in-Ok-Waits.field-0-is at c.in-Ok-Waits.ensures.went)

pub returns-in-Ok-Waits-clause-stops : goal.returns-in-Ok-Waits-clause-stops
returns-in-Ok-Waits-clause-stops g c = found-halts ran.Waits _ _ c.in-Ok-Waits.ensures.stops

pub returns-in-Err-clause-went : goal.returns-in-Err-clause-went
returns-in-Err-clause-went g c =
    goes-unfound g.D.Keeper.rows g.D.Keeper.given g.D.Keeper.faults (record { pass = c.args.pass.now; turns = g.G.SessionGate.turns c.args.gate.now }) (record { pass = c.run_on.new.pass; turns = g.G.SessionGate.turns c.run_on.new.gate })
    c.in-Err.broken c.in-Err.ensures.went
