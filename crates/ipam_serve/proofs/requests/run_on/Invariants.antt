use Rattle.std.proofs.Common.{◌≡◌, None, IsSome}
use Rattle.ipam_shared.specs.Passes.{runs_in}
use Rattle.ipam_serve.specs.Asking.{WasAdmitted}
use Rattle.ipam_serve.specs.Calls.{EachCall}
use Rattle.ipam_serve.specs.Gains.{request_running}
use Rattle.ipam_serve.specs.Keeping.{MakesCalls}
use Rattle.ipam_serve.specs.Runs.{WentOn}
use Rattle.ipam_serve.proofs.requests.run_on.Given as goal

abbrev pub invariant-loop-ran : goal.invariant-loop-ran
invariant-loop-ran g l = record {
  far : WentOn (record { pass = l.initial.pass; turns = g.G.SessionGate.turns l.initial.gate }) None 0 (record { pass = l.pass; turns = g.G.SessionGate.turns l.gate });
  runs : IsSome (runs_in l.pass);
  asked : request_running (runs_in l.pass) ≡ request_running (runs_in l.initial.pass);
  stops : g.G.SessionGate.stops l.gate ≡ g.G.SessionGate.stops l.initial.gate;
  lines : g.G.SessionGate.lines l.gate ≡ g.G.SessionGate.lines l.initial.gate;
  keeper : MakesCalls g.D.Keeper.rows g.D.Keeper.given g.D.Keeper.faults l.initial.pass l.pass;
  admitted : EachCall (WasAdmitted g.G.SessionGate.admits) l.initial.pass l.pass;
}

-- how many turns are left
abbrev pub decreases-loop-ran : goal.decreases-loop-ran
decreases-loop-ran g l = l.pass.left
