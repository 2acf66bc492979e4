use Rattle.std.proofs.Common.{◌≡◌, ◌≤◌, Some, refl, true}
use Rattle.ipam_session.specs.declared.wish.Wish.TheVariants as wish
use Rattle.ipam_shared.specs.Passes.{runs_in}
use Rattle.ipam_serve.specs.Gains.{is_waiting}
use Rattle.ipam_serve.specs.Lines.{server_at}
use Rattle.ipam_serve.specs.declared.ran.Broken.TheVariants.{Worn}
use Rattle.ipam_serve.proofs.Coming.{stop-so}
use Rattle.ipam_serve.proofs.LineParts.{none-waits, rests-none, rests-waits, stop-idle}
use Rattle.ipam_serve.proofs.Outcomes.{comes-nothing, comes-stopped, comes-unstopped}
use Rattle.ipam_serve.proofs.lines.answer_stop.Goals as goal

pub returns-then-not-running-clause-comes : goal.returns-then-not-running-clause-comes
returns-then-not-running-clause-comes g c turns ahead =
    comes-nothing g.D.Keeper.rows g.D.Keeper.given g.D.Keeper.faults (server_at c.args.pass.now turns ahead) (Some wish.Stop) _ c.requires.rests
    (stop-idle (server_at c.args.pass.now turns ahead) (none-waits _ (rests-none (runs_in c.args.pass.now) c.running.result c.running.ensures c.if-not-running.true)))

pub returns-then-left-lt2-clause-comes : goal.returns-then-left-lt2-clause-comes
returns-then-left-lt2-clause-comes g c turns ahead =
    let waits : is_waiting (runs_in c.args.pass.now) ≡ true = rests-waits (runs_in c.args.pass.now) c.running.result c.requires.rests c.running.ensures c.if-not-running.false in
    comes-unstopped g.D.Keeper.rows g.D.Keeper.given g.D.Keeper.faults (server_at c.args.pass.now turns ahead) c.args.pass.now waits Worn refl (rw (← c.left.ensures) c.if-left-lt2.true) tt

pub returns-clause-comes : goal.returns-clause-comes
returns-clause-comes g c turns ahead =
    let waits : is_waiting (runs_in c.args.pass.now) ≡ true = rests-waits (runs_in c.args.pass.now) c.running.result c.requires.rests c.running.ensures c.if-not-running.false in
    let enough : 2 ≤ c.args.pass.now.left = rw (← c.left.ensures) c.if-left-lt2.false in
    comes-stopped g.D.Keeper.rows g.D.Keeper.given g.D.Keeper.faults (server_at c.args.pass.now turns ahead) c.stop.new.pass waits
    (stop-so c.args.pass.now c.stop.new.pass c.in-Ok.entry c.in-Ok.ensures.idle c.in-Ok.ensures.entry (c.running.ensures.0 c.if-not-running.false) c.in-Ok.ensures.same c.in-Ok.ensures.seen c.in-Ok.ensures.knows c.in-Ok.ensures.left enough)
