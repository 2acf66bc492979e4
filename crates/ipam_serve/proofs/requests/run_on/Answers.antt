use Rattle.std.proofs.Common.{arith, refl, ◌∙◌}
use Rattle.ipam_serve.proofs.Going.{halts-on}
use Rattle.ipam_serve.proofs.Onward.{goes-broken, goes-ran}
use Rattle.ipam_serve.proofs.Running.{far-start, far-step, made-asked, same-some}
use Rattle.ipam_serve.proofs.Turning.{took-lock}
use Rattle.ipam_serve.proofs.Keeping.{makes-nothing, makes-then}
use Rattle.ipam_serve.proofs.Admitting.{admits-nothing, admits-then}
use Rattle.ipam_serve.proofs.requests.run_on.Goals as goal

pub loop-ran-init : goal.loop-ran-init
loop-ran-init g c = record {
  far = far-start (record { pass = c.args.pass.now; turns = g.G.SessionGate.turns c.args.gate.now });
  runs = c.requires.runs;
  asked = refl;
  stops = refl;
  lines = refl;
  keeper = makes-nothing g.D.Keeper.rows g.D.Keeper.given g.D.Keeper.faults c.args.pass.now;
  admitted = admits-nothing g.G.SessionGate.admits c.args.pass.now;
}

pub step_on-requires-clause-lock : goal.step_on-requires-clause-lock
step_on-requires-clause-lock g c =
    took-lock c.args.pass.now c.loop-ran.pass c.loop-ran.invariant.far.calls 0 c.loop-ran.invariant.far.took ∙ c.requires.lock

pub returns-in-Ok-Some-clause-went : goal.returns-in-Ok-Some-clause-went
returns-in-Ok-Some-clause-went g c =
    goes-ran g.D.Keeper.rows g.D.Keeper.given g.D.Keeper.faults (record { pass = c.args.pass.now; turns = g.G.SessionGate.turns c.args.gate.now }) (record { pass = c.loop-ran.pass; turns = g.G.SessionGate.turns c.loop-ran.gate })
    (record { pass = c.step_on.new.pass; turns = g.G.SessionGate.turns c.step_on.new.gate }) c.in-Ok-Some.ran c.loop-ran.invariant.far c.loop-ran.invariant.asked c.loop-ran.invariant.keeper
    (rw c.in-Ok-Some.field-0-is at c.in-Ok-Some.ensures.steps)

pub returns-in-Err-clause-went : goal.returns-in-Err-clause-went
returns-in-Err-clause-went g c =
    goes-broken g.D.Keeper.rows g.D.Keeper.given g.D.Keeper.faults (record { pass = c.args.pass.now; turns = g.G.SessionGate.turns c.args.gate.now }) (record { pass = c.loop-ran.pass; turns = g.G.SessionGate.turns c.loop-ran.gate })
    (record { pass = c.step_on.new.pass; turns = g.G.SessionGate.turns c.step_on.new.gate }) c.in-Err.broken c.loop-ran.invariant.far c.loop-ran.invariant.runs c.loop-ran.invariant.keeper c.in-Err.ensures.steps

pub returns-in-Ok-Some-clause-stops : goal.returns-in-Ok-Some-clause-stops
returns-in-Ok-Some-clause-stops g c = c.in-Ok-Some.ensures.stops ∙ c.loop-ran.invariant.stops

pub returns-in-Err-clause-stops : goal.returns-in-Err-clause-stops
returns-in-Err-clause-stops g c = halts-on c.in-Err.broken _ _ _ c.loop-ran.invariant.stops c.in-Err.ensures.stops

pub loop-ran-smaller : goal.loop-ran-smaller
loop-ran-smaller g c =
    let s = rw c.in-Ok-None.field-0-is at c.in-Ok-None.ensures.steps in
    let least = s.step.took.at_least in
    omega arith

pub loop-ran-preserved : goal.loop-ran-preserved
loop-ran-preserved g c =
    let s = rw c.in-Ok-None.field-0-is at c.in-Ok-None.ensures.steps in
    let same = made-asked c.loop-ran.pass c.step_on.new.pass s.step in
    record {
      far = far-step (record { pass = c.args.pass.now; turns = g.G.SessionGate.turns c.args.gate.now }) (record { pass = c.loop-ran.pass; turns = g.G.SessionGate.turns c.loop-ran.gate })
          (record { pass = c.step_on.new.pass; turns = g.G.SessionGate.turns c.step_on.new.gate }) c.loop-ran.invariant.far s.step s.passed;
      runs = same-some _ _ same c.loop-ran.invariant.runs;
      asked = same ∙ c.loop-ran.invariant.asked;
      stops = c.in-Ok-None.ensures.stops ∙ c.loop-ran.invariant.stops;
      lines = c.step_on.ensures.lines ∙ c.loop-ran.invariant.lines;
      keeper = makes-then g.D.Keeper.rows g.D.Keeper.given g.D.Keeper.faults c.args.pass.now c.loop-ran.pass c.step_on.new.pass c.loop-ran.invariant.keeper s.keeper;
      admitted = admits-then g.G.SessionGate.admits c.args.pass.now c.loop-ran.pass c.step_on.new.pass c.loop-ran.invariant.admitted c.step_on.ensures.admitted;
    }

pub returns-in-Ok-Some-clause-admitted : goal.returns-in-Ok-Some-clause-admitted
returns-in-Ok-Some-clause-admitted g c =
    admits-then g.G.SessionGate.admits c.args.pass.now c.loop-ran.pass c.step_on.new.pass c.loop-ran.invariant.admitted c.step_on.ensures.admitted

pub returns-in-Err-clause-admitted : goal.returns-in-Err-clause-admitted
returns-in-Err-clause-admitted g c =
    admits-then g.G.SessionGate.admits c.args.pass.now c.loop-ran.pass c.step_on.new.pass c.loop-ran.invariant.admitted c.step_on.ensures.admitted
