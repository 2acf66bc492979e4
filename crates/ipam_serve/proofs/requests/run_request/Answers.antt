use Rattle.std.proofs.Common.{inl, inr, ◌∙◌}
use Rattle.ipam_serve.proofs.Going.{broken-begun, ran-begun, ran-idle, ran-waits, worn-any, worn-so}
use Rattle.ipam_serve.proofs.Running.{begun-asked, not-begun, some-asked}
use Rattle.ipam_serve.proofs.Turning.{took-lock}
use Rattle.ipam_serve.proofs.Keeping.{makes-begun, makes-none, makes-then}
use Rattle.ipam_serve.proofs.Wearing.{memory-so, room-then, worn-then}
use Rattle.ipam_serve.proofs.Admitting.{admits-begun, admits-none, admits-then}
use Rattle.ipam_serve.proofs.requests.run_request.Goals as goal

pub run_on-requires-clause-runs : goal.run_on-requires-clause-runs
run_on-requires-clause-runs g c =
    some-asked _ c.args.request.now (begun-asked c.args.pass.now c.begin.new.pass c.args.request.now c.in-Ok.ensures.begun)

pub returns-in-Ok-clause-ran : goal.returns-in-Ok-clause-ran
returns-in-Ok-clause-ran g c =
    ran-begun (record { pass = c.args.pass.now; turns = g.G.SessionGate.turns c.args.gate.now }) c.begin.new.pass (record { pass = c.run_on.new.pass; turns = g.G.SessionGate.turns c.run_on.new.gate })
    c.args.request.now c.run_on.result c.in-Ok.ensures.begun c.run_on.ensures.went.ran

pub returns-in-Ok-clause-broken : goal.returns-in-Ok-clause-broken
returns-in-Ok-clause-broken g c =
    broken-begun (record { pass = c.args.pass.now; turns = g.G.SessionGate.turns c.args.gate.now }) c.begin.new.pass (record { pass = c.run_on.new.pass; turns = g.G.SessionGate.turns c.run_on.new.gate })
    c.args.request.now c.run_on.result c.in-Ok.ensures.begun c.run_on.ensures.went.broken

pub returns-in-Ok-clause-can_answer : goal.returns-in-Ok-clause-can_answer
returns-in-Ok-clause-can_answer g c =
    c.run_on.ensures.went.can_answer c.args.request.now (begun-asked c.args.pass.now c.begin.new.pass c.args.request.now c.in-Ok.ensures.begun)

pub returns-in-Ok-clause-idle : goal.returns-in-Ok-clause-idle
returns-in-Ok-clause-idle g c =
    ran-idle (record { pass = c.begin.new.pass; turns = g.G.SessionGate.turns c.args.gate.now }) (record { pass = c.run_on.new.pass; turns = g.G.SessionGate.turns c.run_on.new.gate })
    c.run_on.result c.run_on.ensures.went.ran

pub returns-in-Ok-clause-waits : goal.returns-in-Ok-clause-waits
returns-in-Ok-clause-waits g c =
    ran-waits (record { pass = c.begin.new.pass; turns = g.G.SessionGate.turns c.args.gate.now }) (record { pass = c.run_on.new.pass; turns = g.G.SessionGate.turns c.run_on.new.gate })
    c.args.request.now c.run_on.result (begun-asked c.args.pass.now c.begin.new.pass c.args.request.now c.in-Ok.ensures.begun) c.run_on.ensures.went.ran c.run_on.ensures.went.waits

pub returns-in-Err-clause-broken : goal.returns-in-Err-clause-broken
returns-in-Err-clause-broken g c =
    not-begun (record { pass = c.args.pass.now; turns = g.G.SessionGate.turns c.args.gate.now }) c.begin.new.pass _ c.in-Err.ensures.not_begun

pub returns-in-Ok-clause-unanswered : goal.returns-in-Ok-clause-unanswered
returns-in-Ok-clause-unanswered g c = worn-so c.run_on.result _ _ inr c.run_on.ensures.went.runs

pub returns-in-Err-clause-unanswered : goal.returns-in-Err-clause-unanswered
returns-in-Err-clause-unanswered g c = worn-any c.in-Err.broken _ (inl c.in-Err.ensures.not_begun.gained)

pub returns-in-Ok-clause-keeper : goal.returns-in-Ok-clause-keeper
returns-in-Ok-clause-keeper g c =
    makes-then g.D.Keeper.rows g.D.Keeper.given g.D.Keeper.faults c.args.pass.now c.begin.new.pass c.run_on.new.pass (makes-begun g.D.Keeper.rows g.D.Keeper.given g.D.Keeper.faults c.args.pass.now c.begin.new.pass c.args.request.now c.in-Ok.ensures.begun) c.run_on.ensures.went.keeper

pub returns-in-Err-clause-keeper : goal.returns-in-Err-clause-keeper
returns-in-Err-clause-keeper g c = makes-none g.D.Keeper.rows g.D.Keeper.given g.D.Keeper.faults c.args.pass.now c.begin.new.pass 1 c.in-Err.ensures.not_begun

pub returns-in-Ok-clause-worn : goal.returns-in-Ok-clause-worn
returns-in-Ok-clause-worn g c = worn-so c.run_on.result _ _ (worn-then c.args.pass.now c.begin.new.pass c.run_on.new.pass _ 0 0 c.in-Ok.ensures.begun) c.run_on.ensures.went.worn

pub run_on-requires-clause-lock : goal.run_on-requires-clause-lock
run_on-requires-clause-lock g c = took-lock c.args.pass.now c.begin.new.pass _ 0 c.in-Ok.ensures.begun ∙ c.requires.lock

pub returns-in-Ok-clause-admitted : goal.returns-in-Ok-clause-admitted
returns-in-Ok-clause-admitted g c =
    admits-then g.G.SessionGate.admits c.args.pass.now c.begin.new.pass c.run_on.new.pass
    (admits-begun g.G.SessionGate.admits c.args.pass.now c.begin.new.pass c.args.request.now c.in-Ok.ensures.begun) c.run_on.ensures.admitted

pub returns-in-Err-clause-admitted : goal.returns-in-Err-clause-admitted
returns-in-Err-clause-admitted g c = admits-none g.G.SessionGate.admits c.args.pass.now c.begin.new.pass 1 c.in-Err.ensures.not_begun

pub returns-in-Ok-clause-memory : goal.returns-in-Ok-clause-memory
returns-in-Ok-clause-memory g c =
    memory-so c.run_on.result _ _ (room-then c.args.pass.now c.begin.new.pass c.run_on.new.pass _ 0 c.in-Ok.ensures.begun) c.run_on.ensures.went.memory
