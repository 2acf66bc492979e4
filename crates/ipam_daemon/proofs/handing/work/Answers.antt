use Rattle.std.proofs.Common.{ℕ, subst, sym}
use Rattle.ipam_daemon.specs.Handing.{IsEachServed}
use Rattle.ipam_daemon.proofs.Counts.{served_more, served_none}
use Rattle.ipam_daemon.proofs.handing.work.Goals as goal

pub loop-init : goal.loop-init
loop-init g c = served_none _ _

pub loop-preserved : goal.loop-preserved
loop-preserved g c = served_more _ _ _ _ _ _ c.loop.invariant c.in-Some-take.ensures.one c.attend.ensures.counted

pub returns-in-None-take-clause-each : goal.returns-in-None-take-clause-each
returns-in-None-take-clause-each g c =
    subst (λ (n : ℕ). IsEachServed (g.Q.Takes.taken c.args.connections.now) n (g.W.Attends.attended c.args.worker.now) (g.W.Attends.attended c.loop.worker)) (sym c.in-None-take.ensures.none) c.loop.invariant

pub returns-in-None-take-clause-over : goal.returns-in-None-take-clause-over
returns-in-None-take-clause-over g c = c.in-None-take.ensures.over
