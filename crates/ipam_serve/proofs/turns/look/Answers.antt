use Rattle.std.proofs.Common.{◌≤◌}
use Rattle.ipam_serve.proofs.Looking.{told-look, worn-look}
use Rattle.ipam_serve.proofs.turns.look.Goals as goal

pub returns-then-left-lt2-clause-turn : goal.returns-then-left-lt2-clause-turn
returns-then-left-lt2-clause-turn g c = worn-look c.args.pass.now (rw (← c.left.ensures) c.if-left-lt2.true)

pub returns-clause-turn : goal.returns-clause-turn
returns-clause-turn g c =
    let enough : 2 ≤ c.args.pass.now.left = rw (← c.left.ensures) c.if-left-lt2.false in
    told-look c.args.pass.now c.look.new.pass c.in-Ok.ensures.same c.in-Ok.ensures.seen c.in-Ok.ensures.knows c.in-Ok.ensures.left enough c.in-Ok.told
