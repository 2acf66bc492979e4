use Rattle.ipam_model.specs.declared.request.Request.TheVariants.{Collect}
use Rattle.ipam_shared.specs.Passes.{runs_in}
use Rattle.ipam_serve.proofs.Onward.{own-fed-of, own-memory, own-unfed-of}
use Rattle.ipam_serve.proofs.Running.{never-early}
use Rattle.ipam_serve.proofs.Wearing.{no-collect}
use Rattle.ipam_serve.proofs.Admitting.{admits-nothing}
use Rattle.ipam_serve.proofs.requests.feed_own.Goals as goal

pub returns-in_default-clause-fed : goal.returns-in_default-clause-fed
returns-in_default-clause-fed g c = own-memory g.D.Keeper.rows g.D.Keeper.given g.D.Keeper.faults (record { pass = c.args.pass.now; turns = g.G.SessionGate.turns c.args.gate.now }) _ c.args.request.now
    (no-collect c.args.request.now c.in_default.not-Collect) c.requires.waits

pub unreachable-requires : goal.unreachable-requires
unreachable-requires g c =
    never-early (runs_in c.args.pass.now) c.in-Collect.asked (rw c.in-Collect.is at c.requires.asked) (rw c.in-Collect.is at c.requires.timeless) (rw c.in-Ok-None.field-0-is at c.in-Ok-None.ensures.fed).0

pub returns-in-Ok-Some-clause-fed : goal.returns-in-Ok-Some-clause-fed
returns-in-Ok-Some-clause-fed g c =
    rw c.in-Collect.is
    (own-fed-of g.D.Keeper.rows g.D.Keeper.given g.D.Keeper.faults (record { pass = c.args.pass.now; turns = g.G.SessionGate.turns c.args.gate.now }) (record { pass = c.run_feed.new.pass; turns = g.G.SessionGate.turns c.run_feed.new.gate })
    c.as_slice-live.result.now c.in-Collect.asked.live c.as_slice-live.ensures (Collect c.in-Collect.asked) c.in-Ok-Some.answer (rw c.in-Ok-Some.field-0-is at c.in-Ok-Some.ensures.fed)
    (rw c.in-Ok-Some.field-0-is at (c.in-Ok-Some.ensures.can_answer _ (rw c.in-Collect.is at c.requires.asked))) c.run_feed.ensures.keeper)

pub returns-in-Err-clause-fed : goal.returns-in-Err-clause-fed
returns-in-Err-clause-fed g c =
    rw c.in-Collect.is
    (own-unfed-of g.D.Keeper.rows g.D.Keeper.given g.D.Keeper.faults (record { pass = c.args.pass.now; turns = g.G.SessionGate.turns c.args.gate.now }) (record { pass = c.run_feed.new.pass; turns = g.G.SessionGate.turns c.run_feed.new.gate })
    c.as_slice-live.result.now c.in-Collect.asked.live c.as_slice-live.ensures c.in-Collect.asked c.in-Err.broken c.requires.waits (rw c.in-Collect.is at c.requires.asked) (rw c.in-Collect.is at c.requires.timeless) c.in-Err.ensures.broken c.in-Err.ensures.worn c.in-Err.ensures.memory c.in-Err.ensures.runs c.run_feed.ensures.keeper)

pub run_feed-requires-clause-sound : goal.run_feed-requires-clause-sound
run_feed-requires-clause-sound g c =
    let sound = rw c.in-Collect.is at c.requires.sound in
    rw c.as_slice-live.ensures sound.live

pub returns-in_default-clause-admitted : goal.returns-in_default-clause-admitted
returns-in_default-clause-admitted g c = admits-nothing g.G.SessionGate.admits c.args.pass.now
