-- Each connection that was taken so far was served.
use Rattle.ipam_daemon.specs.Handing.{IsEachServed}
use Rattle.ipam_daemon.proofs.handing.work.Given as goal

abbrev pub invariant-loop : goal.invariant-loop
invariant-loop g l = IsEachServed (g.Q.Takes.taken l.initial.connections) (g.Q.Takes.taken l.connections) (g.W.Attends.attended l.initial.worker) (g.W.Attends.attended l.worker)
