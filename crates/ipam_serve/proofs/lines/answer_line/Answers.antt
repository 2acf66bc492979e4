use Rattle.std.proofs.Common.{◌≡◌, None, Some, inl, inr, refl}
use Rattle.ipam_serve.specs.Lines.{asked_by, server_at}
use Rattle.ipam_serve.proofs.LineParts.{breaks-at-once, unread}
use Rattle.ipam_serve.proofs.Keeping.{makes-nothing}
use Rattle.ipam_serve.proofs.Wearing.{memory-so}
use Rattle.ipam_serve.proofs.Admitting.{admits-nothing}
use Rattle.ipam_serve.proofs.lines.answer_line.Goals as goal

pub answer_wish-requires-clause-sound : goal.answer_wish-requires-clause-sound
answer_wish-requires-clause-sound g c = rw c.in-Ok-Some.field-0-is at c.in-Ok-Some.ensures.sound

pub returns-in-Ok-Some-clause-replied : goal.returns-in-Ok-Some-clause-replied
returns-in-Ok-Some-clause-replied g c =
    let read : asked_by c.args.line.items ≡ Some c.in-Ok-Some.wish = rw c.in-Ok-Some.field-0-is at c.in-Ok-Some.ensures.read in
    rw read c.answer_wish.ensures.comes.replied

pub returns-in-Ok-Some-clause-broken : goal.returns-in-Ok-Some-clause-broken
returns-in-Ok-Some-clause-broken g c =
    let read : asked_by c.args.line.items ≡ Some c.in-Ok-Some.wish = rw c.in-Ok-Some.field-0-is at c.in-Ok-Some.ensures.read in
    rw read c.answer_wish.ensures.comes.broken

pub returns-in-Ok-Some-clause-worn : goal.returns-in-Ok-Some-clause-worn
returns-in-Ok-Some-clause-worn g c =
    let read : asked_by c.args.line.items ≡ Some c.in-Ok-Some.wish = rw c.in-Ok-Some.field-0-is at c.in-Ok-Some.ensures.read in
    rw read c.answer_wish.ensures.comes.worn

pub returns-in-Ok-Some-clause-rests : goal.returns-in-Ok-Some-clause-rests
returns-in-Ok-Some-clause-rests g c = c.answer_wish.ensures.comes.rests

pub returns-in-Ok-Some-clause-keeper : goal.returns-in-Ok-Some-clause-keeper
returns-in-Ok-Some-clause-keeper g c = c.answer_wish.ensures.comes.keeper

pub returns-in-Ok-Some-clause-memory : goal.returns-in-Ok-Some-clause-memory
returns-in-Ok-Some-clause-memory g c =
    let read : asked_by c.args.line.items ≡ Some c.in-Ok-Some.wish = rw c.in-Ok-Some.field-0-is at c.in-Ok-Some.ensures.read in
    rw read (memory-so c.answer_wish.result _ _ inr c.answer_wish.ensures.comes.memory)

pub returns-in-Ok-None-clause-replied : goal.returns-in-Ok-None-clause-replied
returns-in-Ok-None-clause-replied g c =
    let none : asked_by c.args.line.items ≡ None = rw c.in-Ok-None.field-0-is at c.in-Ok-None.ensures.read in
    rw none (unread (server_at c.args.pass.now (g.G.SessionGate.turns c.args.gate.now) (g.C.Clock.ahead c.args.clock.now)))

pub returns-in-Ok-None-clause-keeper : goal.returns-in-Ok-None-clause-keeper
returns-in-Ok-None-clause-keeper g c = makes-nothing g.D.Keeper.rows g.D.Keeper.given g.D.Keeper.faults c.args.pass.now

pub returns-in-Ok-None-clause-admitted : goal.returns-in-Ok-None-clause-admitted
returns-in-Ok-None-clause-admitted g c = admits-nothing g.G.SessionGate.admits c.args.pass.now

pub returns-in-Err-clause-broken : goal.returns-in-Err-clause-broken
returns-in-Err-clause-broken g c = breaks-at-once (server_at c.args.pass.now (g.G.SessionGate.turns c.args.gate.now) (g.C.Clock.ahead c.args.clock.now)) _

pub returns-in-Err-clause-keeper : goal.returns-in-Err-clause-keeper
returns-in-Err-clause-keeper g c = makes-nothing g.D.Keeper.rows g.D.Keeper.given g.D.Keeper.faults c.args.pass.now

pub returns-in-Err-clause-admitted : goal.returns-in-Err-clause-admitted
returns-in-Err-clause-admitted g c = admits-nothing g.G.SessionGate.admits c.args.pass.now

pub returns-in-Err-clause-memory : goal.returns-in-Err-clause-memory
returns-in-Err-clause-memory g c = inl (refl, c.in-Err.ensures.wants)
