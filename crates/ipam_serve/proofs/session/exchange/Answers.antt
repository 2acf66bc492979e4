use Rattle.std.proofs.Common.{Err, ap, refl, ◌∙◌}
use Rattle.std.specs.Io.KnownBytes.{prepend_known}
use Rattle.ipam_shared.specs.PassValue.{PassValue}
use Rattle.ipam_serve.specs.Keeping.{AtKeeper, at_keeper}
use Rattle.ipam_serve.specs.Lines.{server_at}
use Rattle.ipam_serve.specs.Sessions.{Talk, is_read_fault, is_write_fault, talk_at}
use Rattle.ipam_serve.proofs.Coming.{on-ok}
use Rattle.ipam_serve.proofs.Keeping.{came-none, came-so}
use Rattle.ipam_serve.proofs.Routing.{same-rests}
use Rattle.ipam_serve.proofs.Sessions.{ends-nothing, ends-told, ends-undone, exchanged}
use Rattle.ipam_serve.proofs.Reading.{broken-reads, broken-stops, broken-writes}
use Rattle.ipam_serve.proofs.Settled.{rose-after, rose-halts, took-sure}
use Rattle.ipam_serve.proofs.Wearing.{memory-so, wants-none}
use Rattle.ipam_serve.proofs.Admitting.{admits-nothing, admits-settles, admits-then}
use Rattle.ipam_serve.proofs.session.exchange.Goals as goal

pub settle_and_reply-requires-clause-lock : goal.settle_and_reply-requires-clause-lock
settle_and_reply-requires-clause-lock g c = ap (λ (p : PassValue). p.lock) c.answer_line-told.ensures.keeper.same ∙ c.requires.lock

pub settle_and_reply-requires-clause-sure : goal.settle_and_reply-requires-clause-sure
settle_and_reply-requires-clause-sure g c =
    took-sure g.D.Keeper.rows g.D.Keeper.settled c.args.pass.now c.answer_line-told.new.pass _ 1 c.in-Ok-told.ensures.replied.does.took c.requires.sure

pub returns-in-Ok-told-clause-exchanged : goal.returns-in-Ok-told-clause-exchanged
returns-in-Ok-told-clause-exchanged g c =
    let at : AtKeeper = at_keeper g.D.Keeper.rows g.D.Keeper.settled g.D.Keeper.given g.D.Keeper.faults g.D.Keeper.broken in
    let old : Talk = talk_at (server_at c.args.pass.now (g.G.SessionGate.turns c.args.gate.now) (g.C.Clock.ahead c.args.clock.now)) c.args.opening.now (g.G.SessionGate.lines c.args.gate.now) (prepend_known c.args.lines.now (g.L.Source.left c.args.link.now)) (g.L.Sink.written c.args.link.now) in
    let new : Talk = talk_at (server_at c.settle_and_reply.new.pass (g.G.SessionGate.turns c.answer_line-told.new.gate) (g.C.Clock.ahead c.answer_line-told.new.clock)) c.args.opening.now (g.G.SessionGate.lines c.answer_line-told.new.gate) (prepend_known c.read_line.new.lines (g.L.Source.left c.settle_and_reply.new.link)) (g.L.Sink.written c.settle_and_reply.new.link) in
    let coming = prepend_known c.read_line.new.lines (g.L.Source.left c.read_line.new.link) in
    exchanged at c.in-Ok.line.items old new (g.G.SessionGate.turns c.read_line.new.gate) coming (g.L.Sink.written c.read_line.new.link) c.read_line.ensures.turns
    c.in-Ok.ensures.line
    (ap (prepend_known c.read_line.new.lines) c.settle_and_reply.ensures.left) c.read_line.ensures.written
    (c.answer_line-told.ensures.lines ∙ c.read_line.ensures.asked) c.answer_line-told.new.pass c.in-Ok-told.reply c.in-Ok-told.ensures.replied c.in-Ok-told.ensures.opened
    (λ r. came-so g.D.Keeper.rows g.D.Keeper.given g.D.Keeper.faults old.server.taker (record { pass = c.answer_line-told.new.pass; turns = new.server.taker.turns }) _ r.answer 1 r.does c.answer_line-told.ensures.keeper)
    c.settle_and_reply.ensures.settles c.settle_and_reply.result refl c.settle_and_reply.ensures.settled c.settle_and_reply.ensures.known c.settle_and_reply.ensures.wrote

pub returns-in-Ok-told-clause-ended : goal.returns-in-Ok-told-clause-ended
returns-in-Ok-told-clause-ended g c =
    let at : AtKeeper = at_keeper g.D.Keeper.rows g.D.Keeper.settled g.D.Keeper.given g.D.Keeper.faults g.D.Keeper.broken in
    let old : Talk = talk_at (server_at c.args.pass.now (g.G.SessionGate.turns c.args.gate.now) (g.C.Clock.ahead c.args.clock.now)) c.args.opening.now (g.G.SessionGate.lines c.args.gate.now) (prepend_known c.args.lines.now (g.L.Source.left c.args.link.now)) (g.L.Sink.written c.args.link.now) in
    let new : Talk = talk_at (server_at c.settle_and_reply.new.pass (g.G.SessionGate.turns c.answer_line-told.new.gate) (g.C.Clock.ahead c.answer_line-told.new.clock)) c.args.opening.now (g.G.SessionGate.lines c.answer_line-told.new.gate) (prepend_known c.read_line.new.lines (g.L.Source.left c.settle_and_reply.new.link)) (g.L.Sink.written c.settle_and_reply.new.link) in
    let coming = prepend_known c.read_line.new.lines (g.L.Source.left c.read_line.new.link) in
    ends-told at c.in-Ok.line.items old new (g.G.SessionGate.turns c.read_line.new.gate) coming (g.L.Sink.written c.read_line.new.link) c.read_line.ensures.turns
    c.in-Ok.ensures.line
    (ap (prepend_known c.read_line.new.lines) c.settle_and_reply.ensures.left) c.read_line.ensures.written
    (c.answer_line-told.ensures.lines ∙ c.read_line.ensures.asked) c.answer_line-told.new.pass c.in-Ok-told.reply c.in-Ok-told.ensures.replied c.in-Ok-told.ensures.opened
    (λ r. came-so g.D.Keeper.rows g.D.Keeper.given g.D.Keeper.faults old.server.taker (record { pass = c.answer_line-told.new.pass; turns = new.server.taker.turns }) _ r.answer 1 r.does c.answer_line-told.ensures.keeper)
    c.settle_and_reply.ensures.settles c.settle_and_reply.result c.settle_and_reply.ensures.ended

pub returns-in-Ok-told-clause-rests : goal.returns-in-Ok-told-clause-rests
returns-in-Ok-told-clause-rests g c = on-ok c.settle_and_reply.result (same-rests c.answer_line-told.new.pass c.settle_and_reply.new.pass c.settle_and_reply.ensures.settles.runs c.in-Ok-told.ensures.rests)

pub returns-in-Ok-told-clause-lock : goal.returns-in-Ok-told-clause-lock
returns-in-Ok-told-clause-lock g c = ap (λ (p : PassValue). p.lock) c.settle_and_reply.ensures.settles.same ∙ ap (λ (p : PassValue). p.lock) c.answer_line-told.ensures.keeper.same

pub returns-in-Ok-told-clause-reads : goal.returns-in-Ok-told-clause-reads
returns-in-Ok-told-clause-reads g c = rose-after is_read_fault c.settle_and_reply.result _ _ _ c.in-Ok.ensures.reads c.settle_and_reply.ensures.reads

pub returns-in-Ok-told-clause-writes : goal.returns-in-Ok-told-clause-writes
returns-in-Ok-told-clause-writes g c = rose-after is_write_fault c.settle_and_reply.result _ _ _ c.in-Ok.ensures.writes c.settle_and_reply.ensures.writes

pub returns-in-Ok-told-clause-stops : goal.returns-in-Ok-told-clause-stops
returns-in-Ok-told-clause-stops g c = rose-halts c.settle_and_reply.result _ _ c.settle_and_reply.ensures.not_halted (c.in-Ok-told.ensures.stops ∙ c.in-Ok.ensures.stops)

pub returns-in-Err-told-clause-ended : goal.returns-in-Err-told-clause-ended
returns-in-Err-told-clause-ended g c =
    let at : AtKeeper = at_keeper g.D.Keeper.rows g.D.Keeper.settled g.D.Keeper.given g.D.Keeper.faults g.D.Keeper.broken in
    let old : Talk = talk_at (server_at c.args.pass.now (g.G.SessionGate.turns c.args.gate.now) (g.C.Clock.ahead c.args.clock.now)) c.args.opening.now (g.G.SessionGate.lines c.args.gate.now) (prepend_known c.args.lines.now (g.L.Source.left c.args.link.now)) (g.L.Sink.written c.args.link.now) in
    let new : Talk = talk_at (server_at c.answer_line-told.new.pass (g.G.SessionGate.turns c.answer_line-told.new.gate) (g.C.Clock.ahead c.answer_line-told.new.clock)) c.args.opening.now (g.G.SessionGate.lines c.answer_line-told.new.gate) (prepend_known c.read_line.new.lines (g.L.Source.left c.read_line.new.link)) (g.L.Sink.written c.read_line.new.link) in
    rw c.end_of.ensures
    (ends-undone at c.in-Ok.line.items old new (g.G.SessionGate.turns c.read_line.new.gate) new.coming (g.L.Sink.written c.read_line.new.link) c.read_line.ensures.turns
    c.in-Ok.ensures.line
    refl c.read_line.ensures.written (c.answer_line-told.ensures.lines ∙ c.read_line.ensures.asked) c.in-Err-told.broken c.in-Err-told.ensures.broken c.in-Err-told.ensures.worn
    (memory-so {T = Unit {0}} (Err c.in-Err-told.broken) _ _ (wants-none _ _ _) c.in-Err-told.ensures.memory) refl
    (came-none g.D.Keeper.rows g.D.Keeper.given g.D.Keeper.faults old.server.taker.pass new.server.taker.pass c.answer_line-told.ensures.keeper))

pub returns-in-Err-clause-ended : goal.returns-in-Err-clause-ended
returns-in-Err-clause-ended g c =
    let at : AtKeeper = at_keeper g.D.Keeper.rows g.D.Keeper.settled g.D.Keeper.given g.D.Keeper.faults g.D.Keeper.broken in
    let old : Talk = talk_at (server_at c.args.pass.now (g.G.SessionGate.turns c.args.gate.now) (g.C.Clock.ahead c.args.clock.now)) c.args.opening.now (g.G.SessionGate.lines c.args.gate.now) (prepend_known c.args.lines.now (g.L.Source.left c.args.link.now)) (g.L.Sink.written c.args.link.now) in
    let new : Talk = talk_at (server_at c.args.pass.now (g.G.SessionGate.turns c.read_line.new.gate) (g.C.Clock.ahead c.args.clock.now)) c.args.opening.now (g.G.SessionGate.lines c.read_line.new.gate) (prepend_known c.read_line.new.lines (g.L.Source.left c.read_line.new.link)) (g.L.Sink.written c.read_line.new.link) in
    ends-nothing at c.in-Err.end old new
    (ap (λ turns. server_at c.args.pass.now turns (g.C.Clock.ahead c.args.clock.now)) c.read_line.ensures.turns)
    refl c.read_line.ensures.asked c.in-Err.ensures.none c.read_line.ensures.written (c.in-Err.ensures.cause c.args.pass.now c.args.pass.now)

pub returns-in-Err-told-clause-lock : goal.returns-in-Err-told-clause-lock
returns-in-Err-told-clause-lock g c = ap (λ (p : PassValue). p.lock) c.answer_line-told.ensures.keeper.same

pub returns-in-Err-told-clause-reads : goal.returns-in-Err-told-clause-reads
returns-in-Err-told-clause-reads g c = rw c.end_of.ensures (broken-reads c.in-Err-told.broken _ _ c.in-Ok.ensures.reads)

pub returns-in-Err-told-clause-writes : goal.returns-in-Err-told-clause-writes
returns-in-Err-told-clause-writes g c = rw c.end_of.ensures (broken-writes c.in-Err-told.broken _ _ c.in-Ok.ensures.writes)

pub returns-in-Err-told-clause-stops : goal.returns-in-Err-told-clause-stops
returns-in-Err-told-clause-stops g c = rw c.end_of.ensures (broken-stops c.in-Err-told.broken _ _ _ c.in-Ok.ensures.stops c.in-Err-told.ensures.stops)

pub returns-in-Ok-told-clause-admitted : goal.returns-in-Ok-told-clause-admitted
returns-in-Ok-told-clause-admitted g c =
    admits-then g.G.SessionGate.admits c.args.pass.now c.answer_line-told.new.pass c.settle_and_reply.new.pass c.answer_line-told.ensures.admitted
    (admits-settles g.G.SessionGate.admits c.answer_line-told.new.pass c.settle_and_reply.new.pass c.settle_and_reply.ensures.settles)

pub returns-in-Err-clause-admitted : goal.returns-in-Err-clause-admitted
returns-in-Err-clause-admitted g c = admits-nothing g.G.SessionGate.admits c.args.pass.now
