use Rattle.std.proofs.Common.{Some}
use Rattle.ipam_session.specs.declared.wish.Wish.TheVariants as wish
use Rattle.ipam_serve.proofs.LineParts.{since-wears}
use Rattle.ipam_serve.proofs.Outcomes.{comes-seen, comes-unseen, never-halts}
use Rattle.ipam_serve.proofs.Routing.{since-breaks, since-replies}
use Rattle.ipam_serve.proofs.lines.answer_since.Goals as goal
use Rattle.ipam_serve.specs.Lines.{server_at}

pub returns-in-Ok-clause-comes : goal.returns-in-Ok-clause-comes
returns-in-Ok-clause-comes g c turns ahead =
    (comes-seen g.D.Keeper.rows g.D.Keeper.given g.D.Keeper.faults (server_at c.args.pass.now turns ahead) c.routes_since.new.pass c.in-Ok.ensures.turn.took (Some (wish.RoutesSince c.args.revision)) _ c.in-Ok.ensures.turn.runs c.requires.rests
    (since-replies (server_at c.args.pass.now turns ahead) c.routes_since.new.pass c.in-Ok.ensures.turn.took c.args.revision c.in-Ok.since c.in-Ok.ensures.told c.in-Ok.ensures.turn.one))

pub returns-in-Err-clause-comes : goal.returns-in-Err-clause-comes
returns-in-Err-clause-comes g c turns ahead =
    comes-unseen g.D.Keeper.rows g.D.Keeper.given g.D.Keeper.faults (server_at c.args.pass.now turns ahead) c.routes_since.new.pass c.in-Err.ensures.turn.took (Some (wish.RoutesSince c.args.revision)) c.in-Err.broken
    (since-breaks (server_at c.args.pass.now turns ahead) c.routes_since.new.pass c.in-Err.ensures.turn.took c.args.revision)
    (since-wears c.args.pass.now c.routes_since.new.pass c.args.revision c.in-Err.ensures.turn.took) c.in-Err.ensures.turn.worn c.in-Err.ensures.memory

pub returns-in-Err-clause-stops : goal.returns-in-Err-clause-stops
returns-in-Err-clause-stops g c count = never-halts c.in-Err.broken count c.in-Err.ensures.turn.not_halted
