use Rattle.std.proofs.Common.{◌∙◌, Err, inl}
use Rattle.ipam_shared.specs.Passes.{runs_in}
use Rattle.ipam_serve.proofs.Going.{fed-broken, fed-found, fed-runs, feeds-early, still-runs, worn-any, worn-so}
use Rattle.ipam_serve.proofs.Running.{not-begun, waiting-some}
use Rattle.ipam_serve.proofs.Turning.{took-lock}
use Rattle.ipam_serve.proofs.Keeping.{makes-fed, makes-none, makes-then}
use Rattle.ipam_serve.proofs.Wearing.{fed-memory, memory-so, worn-then}
use Rattle.ipam_serve.specs.declared.turns.Feeding.TheVariants as feeding
use Rattle.ipam_serve.proofs.Admitting.{admits-fed, admits-none, admits-then}
use Rattle.ipam_serve.proofs.requests.run_feed.Goals as goal

pub run_fed-requires-clause-runs : goal.run_fed-requires-clause-runs
run_fed-requires-clause-runs g c =
    (fed-runs c.args.pass.now c.feed.new.pass c.args.live.now c.args.at c.requires.waits (rw c.in-Ok-Fed.field-0-is at c.in-Ok-Fed.ensures.fed)).1

pub returns-in-Ok-Fed-clause-fed : goal.returns-in-Ok-Fed-clause-fed
returns-in-Ok-Fed-clause-fed g c =
    fed-found (record { pass = c.args.pass.now; turns = g.G.SessionGate.turns c.args.gate.now }) c.feed.new.pass (record { pass = c.run_fed.new.pass; turns = g.G.SessionGate.turns c.run_fed.new.gate })
    c.args.live.now c.args.at c.run_fed.result (rw c.in-Ok-Fed.field-0-is at c.in-Ok-Fed.ensures.fed) c.run_fed.ensures.went.ran

pub returns-in-Ok-Fed-clause-broken : goal.returns-in-Ok-Fed-clause-broken
returns-in-Ok-Fed-clause-broken g c =
    fed-broken (record { pass = c.args.pass.now; turns = g.G.SessionGate.turns c.args.gate.now }) c.feed.new.pass (record { pass = c.run_fed.new.pass; turns = g.G.SessionGate.turns c.run_fed.new.gate })
    c.args.live.now c.args.at c.run_fed.result (rw c.in-Ok-Fed.field-0-is at c.in-Ok-Fed.ensures.fed) c.run_fed.ensures.went.broken

pub returns-in-Ok-Fed-clause-can_answer : goal.returns-in-Ok-Fed-clause-can_answer
returns-in-Ok-Fed-clause-can_answer g c request asked =
    c.run_fed.ensures.went.can_answer request
    ((fed-runs c.args.pass.now c.feed.new.pass c.args.live.now c.args.at c.requires.waits (rw c.in-Ok-Fed.field-0-is at c.in-Ok-Fed.ensures.fed)).0 ∙ asked)

pub returns-in-Ok-TooSoon-clause-fed : goal.returns-in-Ok-TooSoon-clause-fed
returns-in-Ok-TooSoon-clause-fed g c =
    feeds-early (record { pass = c.args.pass.now; turns = g.G.SessionGate.turns c.args.gate.now }) c.feed.new.pass c.args.live.now c.args.at
    (rw c.in-Ok-TooSoon.field-0-is at c.in-Ok-TooSoon.ensures.fed)

pub returns-in-Err-clause-broken : goal.returns-in-Err-clause-broken
returns-in-Err-clause-broken g c =
    not-begun (record { pass = c.args.pass.now; turns = g.G.SessionGate.turns c.args.gate.now }) c.feed.new.pass _ c.in-Err.ensures.not_fed

pub returns-in-Err-clause-runs : goal.returns-in-Err-clause-runs
returns-in-Err-clause-runs g c = worn-any c.in-Err.broken _ (still-runs c.args.pass.now c.feed.new.pass 1 c.in-Err.ensures.not_fed (waiting-some (runs_in c.args.pass.now) c.requires.waits))

pub returns-in-Ok-Fed-clause-keeper : goal.returns-in-Ok-Fed-clause-keeper
returns-in-Ok-Fed-clause-keeper g c =
    makes-then g.D.Keeper.rows g.D.Keeper.given g.D.Keeper.faults c.args.pass.now c.feed.new.pass c.run_fed.new.pass
    (makes-fed g.D.Keeper.rows g.D.Keeper.given g.D.Keeper.faults c.args.pass.now c.feed.new.pass c.args.live.now c.args.at (rw c.in-Ok-Fed.field-0-is at c.in-Ok-Fed.ensures.fed).0) c.run_fed.ensures.went.keeper

pub returns-in-Ok-TooSoon-clause-keeper : goal.returns-in-Ok-TooSoon-clause-keeper
returns-in-Ok-TooSoon-clause-keeper g c = makes-none g.D.Keeper.rows g.D.Keeper.given g.D.Keeper.faults c.args.pass.now c.feed.new.pass 1 (rw c.in-Ok-TooSoon.field-0-is at c.in-Ok-TooSoon.ensures.fed).0

pub returns-in-Err-clause-keeper : goal.returns-in-Err-clause-keeper
returns-in-Err-clause-keeper g c = makes-none g.D.Keeper.rows g.D.Keeper.given g.D.Keeper.faults c.args.pass.now c.feed.new.pass 1 c.in-Err.ensures.not_fed

pub returns-in-Ok-Fed-clause-worn : goal.returns-in-Ok-Fed-clause-worn
returns-in-Ok-Fed-clause-worn g c =
    worn-so c.run_fed.result _ _ (worn-then c.args.pass.now c.feed.new.pass c.run_fed.new.pass _ 0 0 (rw c.in-Ok-Fed.field-0-is at c.in-Ok-Fed.ensures.fed).0) c.run_fed.ensures.went.worn

pub returns-in-Ok-Fed-clause-runs : goal.returns-in-Ok-Fed-clause-runs
returns-in-Ok-Fed-clause-runs g c = c.run_fed.ensures.went.runs

pub run_fed-requires-clause-lock : goal.run_fed-requires-clause-lock
run_fed-requires-clause-lock g c = took-lock c.args.pass.now c.feed.new.pass _ 0 (rw c.in-Ok-Fed.field-0-is at c.in-Ok-Fed.ensures.fed).0 ∙ c.requires.lock

pub returns-in-Ok-Fed-clause-admitted : goal.returns-in-Ok-Fed-clause-admitted
returns-in-Ok-Fed-clause-admitted g c =
    admits-then g.G.SessionGate.admits c.args.pass.now c.feed.new.pass c.run_fed.new.pass
    (admits-fed g.G.SessionGate.admits c.args.pass.now c.feed.new.pass c.args.live.now c.args.at feeding.Fed (rw c.in-Ok-Fed.field-0-is at c.in-Ok-Fed.ensures.fed)) c.run_fed.ensures.admitted

pub returns-in-Ok-TooSoon-clause-admitted : goal.returns-in-Ok-TooSoon-clause-admitted
returns-in-Ok-TooSoon-clause-admitted g c =
    admits-fed g.G.SessionGate.admits c.args.pass.now c.feed.new.pass c.args.live.now c.args.at feeding.TooSoon (rw c.in-Ok-TooSoon.field-0-is at c.in-Ok-TooSoon.ensures.fed)

pub returns-in-Err-clause-admitted : goal.returns-in-Err-clause-admitted
returns-in-Err-clause-admitted g c = admits-none g.G.SessionGate.admits c.args.pass.now c.feed.new.pass 1 c.in-Err.ensures.not_fed

pub returns-in-Ok-Fed-clause-memory : goal.returns-in-Ok-Fed-clause-memory
returns-in-Ok-Fed-clause-memory g c =
    fed-memory (record { pass = c.args.pass.now; turns = g.G.SessionGate.turns c.args.gate.now }) c.feed.new.pass (record { pass = c.run_fed.new.pass; turns = g.G.SessionGate.turns c.run_fed.new.gate })
    c.args.live.now c.args.at c.run_fed.result (rw c.in-Ok-Fed.field-0-is at c.in-Ok-Fed.ensures.fed) c.run_fed.ensures.went.broken c.run_fed.ensures.went.memory

pub returns-in-Err-clause-memory : goal.returns-in-Err-clause-memory
returns-in-Err-clause-memory g c = memory-so {T = Unit {0}} (Err c.in-Err.broken) _ _ (λ found. (found.0, inl found.1)) c.in-Err.ensures.memory
