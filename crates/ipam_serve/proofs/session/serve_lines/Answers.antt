use Rattle.std.proofs.Common.{◌∷◌, ◌∙◌, Err, refl}
use Rattle.std.specs.Io.KnownBytes.{prepend_known}
use Rattle.ipam_serve.specs.Sessions.{Talk, is_halted, is_read_fault, is_write_fault, talk_at}
use Rattle.ipam_serve.specs.Keeping.{at_keeper}
use Rattle.ipam_serve.proofs.Sessions.{talks-none}
use Rattle.ipam_serve.proofs.Settled.{rose-after}
use Rattle.ipam_serve.proofs.Admitting.{admits-nothing, admits-then}
use Rattle.ipam_serve.proofs.session.serve_lines.Goals as goal
use Rattle.ipam_serve.specs.Lines.{server_at}

pub exchange-requires-clause-lock : goal.exchange-requires-clause-lock
exchange-requires-clause-lock g c = c.loop.invariant.lock ∙ c.requires.lock

pub exchange-requires-clause-rests : goal.exchange-requires-clause-rests
exchange-requires-clause-rests g c = c.loop.invariant.rests

pub exchange-requires-clause-sure : goal.exchange-requires-clause-sure
exchange-requires-clause-sure g c = c.loop.invariant.sure

pub loop-preserved : goal.loop-preserved
loop-preserved g c =
    let between : Talk = talk_at (server_at c.loop.pass (g.G.SessionGate.turns c.loop.gate) (g.C.Clock.ahead c.loop.clock)) c.args.opening.now (g.G.SessionGate.lines c.loop.gate) (prepend_known c.loop.lines (g.L.Source.left c.loop.link)) (g.L.Sink.written c.loop.link) in
    let made = c.loop.invariant.talks in
    let next = c.in-Ok.ensures.exchanged in
    record {
      can = tt;
      finite = tt;
      lock = c.in-Ok.ensures.lock ∙ c.loop.invariant.lock;
      rests = c.in-Ok.ensures.rests;
      sure = c.in-Ok.ensures.sure;
      talks = (next.0 ∷ made.0, (between, made.1, next.1));
      admitted = admits-then g.G.SessionGate.admits c.args.pass.now c.loop.pass c.exchange.new.pass c.loop.invariant.admitted c.exchange.ensures.admitted;
      reads = c.in-Ok.ensures.reads ∙ c.loop.invariant.reads;
      writes = c.in-Ok.ensures.writes ∙ c.loop.invariant.writes;
      stops = c.in-Ok.ensures.stops ∙ c.loop.invariant.stops;
    }

pub loop-init : goal.loop-init
loop-init g c = record {
  can = tt;
  finite = tt;
  lock = refl;
  rests = c.requires.rests;
  sure = c.requires.sure;
  talks = talks-none (at_keeper g.D.Keeper.rows g.D.Keeper.settled g.D.Keeper.given g.D.Keeper.faults g.D.Keeper.broken) (server_at c.args.pass.now (g.G.SessionGate.turns c.args.gate.now) (g.C.Clock.ahead c.args.clock.now))
      c.args.opening.now (g.G.SessionGate.lines c.args.gate.now) (g.L.Source.left c.args.link.now) (g.L.Sink.written c.args.link.now) c.new-lines.result c.new-lines.ensures;
  admitted = admits-nothing g.G.SessionGate.admits c.args.pass.now;
  reads = refl;
  writes = refl;
  stops = refl;
}

pub returns-in-Err-clause-served : goal.returns-in-Err-clause-served
returns-in-Err-clause-served g c =
    let between : Talk = talk_at (server_at c.loop.pass (g.G.SessionGate.turns c.loop.gate) (g.C.Clock.ahead c.loop.clock)) c.args.opening.now (g.G.SessionGate.lines c.loop.gate) (prepend_known c.loop.lines (g.L.Source.left c.loop.link)) (g.L.Sink.written c.loop.link) in
    let made = c.loop.invariant.talks in
    (c.exchange.new.lines, record { exchanges = made.0; between = between; talks = made.1; ends = c.in-Err.ensures.ended })

pub returns-in-Err-clause-lock : goal.returns-in-Err-clause-lock
returns-in-Err-clause-lock g c = c.exchange.ensures.lock ∙ c.loop.invariant.lock

pub returns-in-Err-clause-reads : goal.returns-in-Err-clause-reads
returns-in-Err-clause-reads g c = rose-after is_read_fault (Err c.in-Err.end) _ _ _ c.loop.invariant.reads c.in-Err.ensures.reads

pub returns-in-Err-clause-writes : goal.returns-in-Err-clause-writes
returns-in-Err-clause-writes g c = rose-after is_write_fault (Err c.in-Err.end) _ _ _ c.loop.invariant.writes c.in-Err.ensures.writes

pub returns-in-Err-clause-stops : goal.returns-in-Err-clause-stops
returns-in-Err-clause-stops g c = rose-after is_halted (Err c.in-Err.end) _ _ _ c.loop.invariant.stops c.in-Err.ensures.stops

pub returns-in-Err-clause-admitted : goal.returns-in-Err-clause-admitted
returns-in-Err-clause-admitted g c =
    admits-then g.G.SessionGate.admits c.args.pass.now c.loop.pass c.exchange.new.pass c.loop.invariant.admitted c.exchange.ensures.admitted
