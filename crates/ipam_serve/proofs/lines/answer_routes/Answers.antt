use Rattle.std.proofs.Common.{◌≤◌, arith, Some}
use Rattle.std.specs.Prelude.{Ok, Err}
use Rattle.ipam_session.specs.declared.wish.Wish.TheVariants as wish
use Rattle.ipam_serve.specs.declared.ran.Broken.TheVariants.{Memory, Worn}
use Rattle.ipam_serve.specs.Lines.{server_at}
use Rattle.ipam_serve.specs.Turns.{TakesOne}
use Rattle.ipam_serve.proofs.Coming.{knows-err, one-err, sees-none}
use Rattle.ipam_serve.proofs.LineParts.{routes-wears}
use Rattle.ipam_serve.proofs.Looking.{memory-one, told-one, worn-one}
use Rattle.ipam_serve.proofs.Outcomes.{comes-seen, comes-unseen}
use Rattle.ipam_serve.proofs.Routing.{routes-breaks, routes-replies}
use Rattle.ipam_serve.proofs.lines.answer_routes.Goals as goal

pub returns-then-left-lt2-clause-comes : goal.returns-then-left-lt2-clause-comes
returns-then-left-lt2-clause-comes g c turns ahead =
    let one : TakesOne {T = Unit {0}} (Err Worn) c.args.pass.now c.args.pass.now = worn-one c.args.pass.now (rw (← c.left.ensures) c.if-left-lt2.true) in
    comes-unseen g.D.Keeper.rows g.D.Keeper.given g.D.Keeper.faults (server_at c.args.pass.now turns ahead) c.args.pass.now one.took (Some wish.Routes) Worn
    (routes-breaks (server_at c.args.pass.now turns ahead) c.args.pass.now one.took) (routes-wears c.args.pass.now c.args.pass.now one.took) one.worn tt

pub returns-in-Ok-clause-comes : goal.returns-in-Ok-clause-comes
returns-in-Ok-clause-comes g c turns ahead =
    let enough : 2 ≤ c.args.pass.now.left = rw (← c.left.ensures) c.if-left-lt2.false in
    let one : TakesOne {T = Unit {0}} (Ok tt) c.args.pass.now c.routes.new.pass = told-one c.args.pass.now c.routes.new.pass c.in-Ok.ensures.same c.in-Ok.ensures.seen c.in-Ok.ensures.knows c.in-Ok.ensures.left enough tt in
    rw c.of.ensures (comes-seen g.D.Keeper.rows g.D.Keeper.given g.D.Keeper.faults (server_at c.args.pass.now turns ahead) c.routes.new.pass one.took (Some wish.Routes) _ one.runs c.requires.rests
    (routes-replies (server_at c.args.pass.now turns ahead) c.routes.new.pass one.took c.in-Ok.revision c.in-Ok.routes.items c.in-Ok.ensures.routes one.one))

pub returns-in-Err-clause-comes : goal.returns-in-Err-clause-comes
returns-in-Err-clause-comes g c turns ahead =
    let enough : 2 ≤ c.args.pass.now.left = rw (← c.left.ensures) c.if-left-lt2.false in
    let left = one-err c.args.pass.now c.routes.new.pass c.in-Err.field-0 c.in-Err.ensures.spent enough c.in-Err.ensures.left in
    let one : TakesOne {T = Unit {0}} (Err Memory) c.args.pass.now c.routes.new.pass = memory-one c.args.pass.now c.routes.new.pass c.in-Err.ensures.same
    (sees-none c.args.pass.now c.routes.new.pass c.in-Err.field-0 c.in-Err.ensures.spent enough c.in-Err.ensures.seen)
    (knows-err c.args.pass.now c.routes.new.pass c.in-Err.field-0 c.in-Err.ensures.spent enough c.in-Err.ensures.knows)
    (one-err c.args.pass.now c.routes.new.pass c.in-Err.field-0 c.in-Err.ensures.spent enough c.in-Err.ensures.left) enough in
    comes-unseen g.D.Keeper.rows g.D.Keeper.given g.D.Keeper.faults (server_at c.args.pass.now turns ahead) c.routes.new.pass one.took (Some wish.Routes) Memory
    (routes-breaks (server_at c.args.pass.now turns ahead) c.routes.new.pass one.took) (routes-wears c.args.pass.now c.routes.new.pass one.took) one.worn (omega arith)
