use Rattle.std.proofs.Common.{arith, Some}
use Rattle.std.specs.Prelude.{Ok, Err}
use Rattle.ipam_session.specs.declared.wish.Wish.TheVariants as wish
use Rattle.ipam_serve.specs.declared.ran.Broken.TheVariants.{Memory, Worn}
use Rattle.ipam_serve.specs.Lines.{server_at}
use Rattle.ipam_serve.specs.Turns.{TakesOne}
use Rattle.ipam_serve.proofs.LineParts.{page-wears}
use Rattle.ipam_serve.proofs.Looking.{seen-one, spent-one, unseen-one}
use Rattle.ipam_serve.proofs.Outcomes.{comes-seen, comes-unseen}
use Rattle.ipam_serve.proofs.Routing.{page-breaks, page-replies}
use Rattle.ipam_serve.proofs.lines.answer_page.Goals as goal

pub returns-in-Some-Ok-clause-comes : goal.returns-in-Some-Ok-clause-comes
returns-in-Some-Ok-clause-comes g c turns ahead =
    let one : TakesOne {T = Unit {0}} (Ok tt) c.args.pass.now c.look.new.pass = seen-one c.args.pass.now c.look.new.pass c.in-Some-Ok.field-0 tt c.in-Some-Ok.ensures.turn in
    (comes-seen g.D.Keeper.rows g.D.Keeper.given g.D.Keeper.faults (server_at c.args.pass.now turns ahead) c.look.new.pass one.took (Some (wish.Rows c.args.kind c.args.after.now)) _ one.runs c.requires.rests
    (page-replies (server_at c.args.pass.now turns ahead) c.look.new.pass one.took c.args.kind c.args.after.now c.in-Some-Ok.page (rw c.in-Some-Ok.field-0-is at c.in-Some-Ok.ensures.told) one.one))

pub returns-in-Some-Err-clause-comes : goal.returns-in-Some-Err-clause-comes
returns-in-Some-Err-clause-comes g c turns ahead =
    let left = c.in-Some-Err.ensures.turn.one in
    let one : TakesOne {T = Unit {0}} (Err Memory) c.args.pass.now c.look.new.pass = unseen-one c.args.pass.now c.look.new.pass c.in-Some-Err.field-0 c.in-Some-Err.ensures.turn in
    comes-unseen g.D.Keeper.rows g.D.Keeper.given g.D.Keeper.faults (server_at c.args.pass.now turns ahead) c.look.new.pass one.took (Some (wish.Rows c.args.kind c.args.after.now)) Memory
    (page-breaks (server_at c.args.pass.now turns ahead) c.look.new.pass one.took c.args.kind c.args.after.now) (page-wears c.args.pass.now c.look.new.pass c.args.kind c.args.after.now one.took) one.worn (omega arith)

pub returns-in-None-clause-comes : goal.returns-in-None-clause-comes
returns-in-None-clause-comes g c turns ahead =
    let one : TakesOne {T = Unit {0}} (Err Worn) c.args.pass.now c.look.new.pass = spent-one c.args.pass.now c.look.new.pass c.in-None.ensures.turn in
    comes-unseen g.D.Keeper.rows g.D.Keeper.given g.D.Keeper.faults (server_at c.args.pass.now turns ahead) c.look.new.pass one.took (Some (wish.Rows c.args.kind c.args.after.now)) Worn
    (page-breaks (server_at c.args.pass.now turns ahead) c.look.new.pass one.took c.args.kind c.args.after.now) (page-wears c.args.pass.now c.look.new.pass c.args.kind c.args.after.now one.took) one.worn tt
