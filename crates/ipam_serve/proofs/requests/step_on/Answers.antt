use Rattle.ipam_serve.proofs.Turning.{took-rest}
use Rattle.ipam_serve.proofs.Keeping.{makes-nothing}
use Rattle.ipam_serve.proofs.Admitting.{admits-nothing, admits-step}
use Rattle.ipam_serve.proofs.requests.step_on.Goals as goal

pub returns-in-Stop-clause-steps : goal.returns-in-Stop-clause-steps
returns-in-Stop-clause-steps g c = record {
  step = tt;
  no_step = took-rest c.args.pass.now;
  passed = c.pass.ensures.turn;
  worn = tt;
  memory = tt;
  keeper = makes-nothing g.D.Keeper.rows g.D.Keeper.given g.D.Keeper.faults c.args.pass.now;
}

pub returns-in-Go-clause-steps : goal.returns-in-Go-clause-steps
returns-in-Go-clause-steps g c = record {
  step = c.call.ensures.called;
  no_step = c.call.ensures.not_called;
  passed = c.pass.ensures.turn;
  worn = c.call.ensures.worn;
  memory = c.call.ensures.memory;
  keeper = c.call.ensures.keeper;
}

pub returns-in-Stop-clause-admitted : goal.returns-in-Stop-clause-admitted
returns-in-Stop-clause-admitted g c = admits-nothing g.G.SessionGate.admits c.args.pass.now

pub returns-in-Go-clause-admitted : goal.returns-in-Go-clause-admitted
returns-in-Go-clause-admitted g c =
    admits-step g.G.SessionGate.admits c.call.result c.args.pass.now c.call.new.pass c.args.gate.now c.pass.new.self c.in-Go.ensures.admits c.call.ensures.called c.call.ensures.not_called
