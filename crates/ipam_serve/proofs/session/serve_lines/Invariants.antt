-- Whole exchanges were made so far, and what the pass knows to be sure is so.
use Rattle.std.proofs.Common.{◌≡◌, List}
use Rattle.std.specs.Io.KnownBytes.{prepend_known}
use Rattle.ipam_shared.specs.Passes.{runs_in}
use Rattle.ipam_shared.specs.Settling.{IsSure}
use Rattle.ipam_serve.specs.Asking.{WasAdmitted}
use Rattle.ipam_serve.specs.Calls.{EachCall}
use Rattle.ipam_serve.specs.Keeping.{at_keeper}
use Rattle.ipam_serve.specs.Runs.{IsAtRest}
use Rattle.ipam_serve.specs.Sessions.{Exchange, Talks, talk_at}
use Rattle.ipam_serve.proofs.session.serve_lines.Given as goal
use Rattle.ipam_serve.specs.Lines.{server_at}

abbrev pub invariant-loop : goal.invariant-loop
invariant-loop g l = record {
  can : (goal.iterator-loop g).can_next l.iterator';
  finite : (goal.iterator-loop g).is_finite l.iterator';
  lock : l.pass.lock ≡ l.fn.pass.lock;
  rests : IsAtRest (runs_in l.pass);
  sure : IsSure g.D.Keeper.rows g.D.Keeper.settled l.pass;
  talks : (exchanges : List Exchange) × Talks (at_keeper g.D.Keeper.rows g.D.Keeper.settled g.D.Keeper.given g.D.Keeper.faults g.D.Keeper.broken) exchanges
      (talk_at (server_at l.fn.pass (g.G.SessionGate.turns l.fn.gate) (g.C.Clock.ahead l.fn.clock)) l.fn.opening (g.G.SessionGate.lines l.fn.gate) (g.L.Source.left l.fn.link) (g.L.Sink.written l.fn.link))
      (talk_at (server_at l.pass (g.G.SessionGate.turns l.gate) (g.C.Clock.ahead l.clock)) l.fn.opening (g.G.SessionGate.lines l.gate) (prepend_known l.lines (g.L.Source.left l.link)) (g.L.Sink.written l.link));
  admitted : EachCall (WasAdmitted g.G.SessionGate.admits) l.fn.pass l.pass;
  reads : g.L.Source.read_faults l.link ≡ g.L.Source.read_faults l.fn.link;
  writes : g.L.Sink.write_faults l.link ≡ g.L.Sink.write_faults l.fn.link;
  stops : g.G.SessionGate.stops l.gate ≡ g.G.SessionGate.stops l.fn.gate;
}
