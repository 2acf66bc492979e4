use Rattle.std.proofs.Common.{Err, ap, arith, inl, inr, ◌∙◌}
use Rattle.ipam_shared.specs.PassValue.{PassValue}
use Rattle.ipam_serve.proofs.Going.{call-answered, call-broken, call-fed, worn-from, worn-so}
use Rattle.ipam_serve.proofs.Running.{begins-calls-part}
use Rattle.ipam_serve.proofs.Keeping.{makes-then}
use Rattle.ipam_serve.proofs.Wearing.{memory-so, way-then, worn-more, worn-waited}
use Rattle.ipam_serve.specs.Spans.{waits_of}
use Rattle.ipam_serve.proofs.Admitting.{admits-then}
use Rattle.ipam_serve.proofs.requests.run_call.Goals as goal

pub returns-in-Ok-Answered-clause-ran : goal.returns-in-Ok-Answered-clause-ran
returns-in-Ok-Answered-clause-ran g c =
    call-answered (record { pass = c.args.pass.now; turns = g.G.SessionGate.turns c.args.gate.now }) (record { pass = c.run_request.new.pass; turns = g.G.SessionGate.turns c.run_request.new.gate })
    c.args.request.now c.in-Ok-Answered.answer (rw c.in-Ok-Answered.field-0-is at c.in-Ok-Answered.ensures.ran)

pub returns-in-Ok-Waits-clause-ran : goal.returns-in-Ok-Waits-clause-ran
returns-in-Ok-Waits-clause-ran g c =
    call-fed (record { pass = c.args.pass.now; turns = g.G.SessionGate.turns c.args.gate.now }) (record { pass = c.run_request.new.pass; turns = g.G.SessionGate.turns c.run_request.new.gate })
    (record { pass = c.feed_own.new.pass; turns = g.G.SessionGate.turns c.feed_own.new.gate })
    c.args.request.now c.feed_own.result (rw c.in-Ok-Waits.field-0-is at c.in-Ok-Waits.ensures.ran) c.feed_own.ensures.fed.fed

pub returns-in-Ok-Waits-clause-broken : goal.returns-in-Ok-Waits-clause-broken
returns-in-Ok-Waits-clause-broken g c =
    call-broken (record { pass = c.args.pass.now; turns = g.G.SessionGate.turns c.args.gate.now }) (record { pass = c.run_request.new.pass; turns = g.G.SessionGate.turns c.run_request.new.gate })
    (record { pass = c.feed_own.new.pass; turns = g.G.SessionGate.turns c.feed_own.new.gate })
    c.args.request.now c.feed_own.result (rw c.in-Ok-Waits.field-0-is at c.in-Ok-Waits.ensures.ran) c.feed_own.ensures.fed.broken

pub returns-in-Err-clause-broken : goal.returns-in-Err-clause-broken
returns-in-Err-clause-broken g c =
    begins-calls-part (record { pass = c.args.pass.now; turns = g.G.SessionGate.turns c.args.gate.now }) (record { pass = c.run_request.new.pass; turns = g.G.SessionGate.turns c.run_request.new.gate })
    c.args.request.now c.in-Err.ensures.broken

pub returns-in-Ok-Waits-clause-unanswered : goal.returns-in-Ok-Waits-clause-unanswered
returns-in-Ok-Waits-clause-unanswered g c = worn-so c.feed_own.result _ _ inr c.feed_own.ensures.fed.runs

pub returns-in-Ok-Waits-clause-keeper : goal.returns-in-Ok-Waits-clause-keeper
returns-in-Ok-Waits-clause-keeper g c =
    makes-then g.D.Keeper.rows g.D.Keeper.given g.D.Keeper.faults c.args.pass.now c.run_request.new.pass c.feed_own.new.pass c.run_request.ensures.keeper c.feed_own.ensures.fed.keeper

pub returns-in-Ok-Waits-clause-can_answer : goal.returns-in-Ok-Waits-clause-can_answer
returns-in-Ok-Waits-clause-can_answer g c = c.feed_own.ensures.fed.can_answer

pub returns-in-Ok-Waits-clause-idle : goal.returns-in-Ok-Waits-clause-idle
returns-in-Ok-Waits-clause-idle g c = c.feed_own.ensures.fed.idle

pub returns-in-Ok-Waits-clause-worn : goal.returns-in-Ok-Waits-clause-worn
returns-in-Ok-Waits-clause-worn g c =
    let ran = rw c.in-Ok-Waits.field-0-is at c.in-Ok-Waits.ensures.ran in
    worn-from c.feed_own.result _ _ _ (worn-waited c.args.pass.now c.run_request.new.pass c.feed_own.new.pass ran.entries c.args.request.now ran.took)
    c.feed_own.ensures.fed.collects c.feed_own.ensures.fed.worn

pub returns-in-Err-clause-worn : goal.returns-in-Err-clause-worn
returns-in-Err-clause-worn g c =
    worn-so {T = Unit {0}} (Err c.in-Err.broken) _ _ (worn-more c.args.pass.now c.run_request.new.pass 0 (waits_of c.args.request.now) (omega arith)) c.in-Err.ensures.worn

pub feed_own-requires-clause-lock : goal.feed_own-requires-clause-lock
feed_own-requires-clause-lock g c = ap (λ (p : PassValue). p.lock) c.run_request.ensures.keeper.same ∙ c.requires.lock

pub feed_own-requires-clause-waits : goal.feed_own-requires-clause-waits
feed_own-requires-clause-waits g c = (rw c.in-Ok-Waits.field-0-is at c.in-Ok-Waits.ensures.waits).0

pub feed_own-requires-clause-asked : goal.feed_own-requires-clause-asked
feed_own-requires-clause-asked g c = (rw c.in-Ok-Waits.field-0-is at c.in-Ok-Waits.ensures.waits).1

pub returns-in-Ok-Answered-clause-can_answer : goal.returns-in-Ok-Answered-clause-can_answer
returns-in-Ok-Answered-clause-can_answer g c = rw c.in-Ok-Answered.field-0-is at c.in-Ok-Answered.ensures.can_answer

pub returns-in-Ok-Answered-clause-idle : goal.returns-in-Ok-Answered-clause-idle
returns-in-Ok-Answered-clause-idle g c = rw c.in-Ok-Answered.field-0-is at c.in-Ok-Answered.ensures.idle

pub returns-in-Ok-Waits-clause-admitted : goal.returns-in-Ok-Waits-clause-admitted
returns-in-Ok-Waits-clause-admitted g c =
    admits-then g.G.SessionGate.admits c.args.pass.now c.run_request.new.pass c.feed_own.new.pass c.run_request.ensures.admitted c.feed_own.ensures.admitted

pub returns-in-Ok-Waits-clause-memory : goal.returns-in-Ok-Waits-clause-memory
returns-in-Ok-Waits-clause-memory g c =
    let ran = rw c.in-Ok-Waits.field-0-is at c.in-Ok-Waits.ensures.ran in
    memory-so c.feed_own.result _ _ (way-then c.args.pass.now c.run_request.new.pass c.feed_own.new.pass ran.entries 1 c.args.request.now ran.took) c.feed_own.ensures.fed.memory

pub returns-in-Err-clause-memory : goal.returns-in-Err-clause-memory
returns-in-Err-clause-memory g c = memory-so {T = Unit {0}} (Err c.in-Err.broken) _ _ inl c.in-Err.ensures.memory
