use Rattle.std.proofs.Common.{arith, Some}
use Rattle.std.specs.Prelude.{Ok, Err}
use Rattle.ipam_session.specs.declared.wish.Wish.TheVariants as wish
use Rattle.ipam_serve.specs.declared.ran.Broken.TheVariants.{Memory, Worn}
use Rattle.ipam_serve.specs.Lines.{server_at}
use Rattle.ipam_serve.specs.Turns.{TakesOne}
use Rattle.ipam_serve.proofs.LineParts.{usage-wears}
use Rattle.ipam_serve.proofs.Looking.{seen-one, spent-one, unseen-one}
use Rattle.ipam_serve.proofs.Outcomes.{comes-seen, comes-unseen}
use Rattle.ipam_serve.proofs.Routing.{usage-breaks, usage-replies}
use Rattle.ipam_serve.proofs.lines.answer_usage.Goals as goal

pub returns-in-Some-Ok-clause-comes : goal.returns-in-Some-Ok-clause-comes
returns-in-Some-Ok-clause-comes g c turns ahead =
    let one : TakesOne {T = Unit {0}} (Ok tt) c.args.pass.now c.look.new.pass = seen-one c.args.pass.now c.look.new.pass c.in-Some-Ok.field-0 tt c.in-Some-Ok.ensures.turn in
    rw c.of.ensures (comes-seen g.D.Keeper.rows g.D.Keeper.given g.D.Keeper.faults (server_at c.args.pass.now turns ahead) c.look.new.pass one.took (Some wish.Usage) _ one.runs c.requires.rests
    (usage-replies (server_at c.args.pass.now turns ahead) c.look.new.pass one.took c.in-Some-Ok.revision c.in-Some-Ok.pools.items (rw c.in-Some-Ok.field-0-is at c.in-Some-Ok.ensures.told) one.one))

pub returns-in-Some-Err-clause-comes : goal.returns-in-Some-Err-clause-comes
returns-in-Some-Err-clause-comes g c turns ahead =
    let left = c.in-Some-Err.ensures.turn.one in
    let one : TakesOne {T = Unit {0}} (Err Memory) c.args.pass.now c.look.new.pass = unseen-one c.args.pass.now c.look.new.pass c.in-Some-Err.field-0 c.in-Some-Err.ensures.turn in
    comes-unseen g.D.Keeper.rows g.D.Keeper.given g.D.Keeper.faults (server_at c.args.pass.now turns ahead) c.look.new.pass one.took (Some wish.Usage) Memory
    (usage-breaks (server_at c.args.pass.now turns ahead) c.look.new.pass one.took) (usage-wears c.args.pass.now c.look.new.pass one.took) one.worn (omega arith)

pub returns-in-None-clause-comes : goal.returns-in-None-clause-comes
returns-in-None-clause-comes g c turns ahead =
    let one : TakesOne {T = Unit {0}} (Err Worn) c.args.pass.now c.look.new.pass = spent-one c.args.pass.now c.look.new.pass c.in-None.ensures.turn in
    comes-unseen g.D.Keeper.rows g.D.Keeper.given g.D.Keeper.faults (server_at c.args.pass.now turns ahead) c.look.new.pass one.took (Some wish.Usage) Worn
    (usage-breaks (server_at c.args.pass.now turns ahead) c.look.new.pass one.took) (usage-wears c.args.pass.now c.look.new.pass one.took) one.worn tt
