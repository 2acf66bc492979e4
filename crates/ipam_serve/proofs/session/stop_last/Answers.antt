use Rattle.std.proofs.Common.{inl, inr, refl}
use Rattle.ipam_shared.specs.Passes.{runs_in}
use Rattle.ipam_serve.proofs.LineParts.{rests-none}
use Rattle.ipam_serve.proofs.Sessions.{stopped-so}
use Rattle.ipam_serve.proofs.session.stop_last.Goals as goal

pub returns-then-not-running-clause-stopped : goal.returns-then-not-running-clause-stopped
returns-then-not-running-clause-stopped g c = inl (rests-none (runs_in c.args.pass.now) c.running.result c.running.ensures c.if-not-running.true, refl)

pub returns-then-not-running-clause-idle : goal.returns-then-not-running-clause-idle
returns-then-not-running-clause-idle g c = rests-none (runs_in c.args.pass.now) c.running.result c.running.ensures c.if-not-running.true

pub returns-clause-stopped : goal.returns-clause-stopped
returns-clause-stopped g c =
    inr (stopped-so c.args.pass.now c.stop.new.pass c.in-Ok.entry c.in-Ok.ensures.idle c.in-Ok.ensures.entry (c.running.ensures.0 c.if-not-running.false) c.in-Ok.ensures.same c.in-Ok.ensures.seen c.in-Ok.ensures.left)
