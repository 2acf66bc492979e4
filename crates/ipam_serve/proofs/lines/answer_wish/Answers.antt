use Rattle.ipam_serve.proofs.Going.{memory-halts}
use Rattle.std.proofs.Common.{refl}
use Rattle.ipam_serve.proofs.Outcomes.{comes-opened}
use Rattle.std.proofs.Common.{None, Some}
use Rattle.ipam_session.specs.declared.wish.Wish.TheVariants as wish
use Rattle.ipam_shared.specs.Passes.{runs_in}
use Rattle.ipam_serve.specs.Gains.{is_waiting}
use Rattle.ipam_serve.proofs.Admitting.{admits-line, admits-nothing, stop-quiet}
use Rattle.ipam_serve.proofs.lines.answer_wish.Goals as goal
use Rattle.ipam_serve.specs.Lines.{server_at}

pub returns-in-Cni-clause-comes : goal.returns-in-Cni-clause-comes
returns-in-Cni-clause-comes g c = rw c.in-Cni.is c.answer_call.ensures.comes

pub returns-in-Stop-clause-comes : goal.returns-in-Stop-clause-comes
returns-in-Stop-clause-comes g c = rw c.in-Stop.is (c.answer_stop.ensures.comes (g.G.SessionGate.turns c.args.gate.now) (g.C.Clock.ahead c.args.clock.now))

pub returns-in-Routes-clause-comes : goal.returns-in-Routes-clause-comes
returns-in-Routes-clause-comes g c = rw c.in-Routes.is (c.answer_routes.ensures.comes (g.G.SessionGate.turns c.args.gate.now) (g.C.Clock.ahead c.args.clock.now))

pub returns-in-RoutesSince-clause-comes : goal.returns-in-RoutesSince-clause-comes
returns-in-RoutesSince-clause-comes g c = rw c.in-RoutesSince.is (c.answer_since.ensures.comes (g.G.SessionGate.turns c.args.gate.now) (g.C.Clock.ahead c.args.clock.now))

pub returns-in-Rows-clause-comes : goal.returns-in-Rows-clause-comes
returns-in-Rows-clause-comes g c = rw c.in-Rows.is (c.answer_page.ensures.comes (g.G.SessionGate.turns c.args.gate.now) (g.C.Clock.ahead c.args.clock.now))

pub returns-in-Usage-clause-comes : goal.returns-in-Usage-clause-comes
returns-in-Usage-clause-comes g c = rw c.in-Usage.is (c.answer_usage.ensures.comes (g.G.SessionGate.turns c.args.gate.now) (g.C.Clock.ahead c.args.clock.now))

pub returns-in-Opened-clause-comes : goal.returns-in-Opened-clause-comes
returns-in-Opened-clause-comes g c =
    rw c.in-Opened.is
    (comes-opened g.D.Keeper.rows g.D.Keeper.given g.D.Keeper.faults (server_at c.args.pass.now (g.G.SessionGate.turns c.args.gate.now) (g.C.Clock.ahead c.args.clock.now)) c.args.opening.now c.answer_opened.result c.requires.rests c.answer_opened.ensures.opened c.answer_opened.ensures.memory)

pub returns-in-Opened-clause-stops : goal.returns-in-Opened-clause-stops
returns-in-Opened-clause-stops g c = memory-halts c.answer_opened.result _ _ c.answer_opened.ensures.memory refl

pub returns-in-Stop-clause-admitted : goal.returns-in-Stop-clause-admitted
returns-in-Stop-clause-admitted g c =
    let comes = c.answer_stop.ensures.comes None None in
    admits-line g.G.SessionGate.admits (Some wish.Stop) c.answer_stop.result (server_at c.args.pass.now None None) (server_at c.answer_stop.new.pass None None) (λ at. stop-quiet (is_waiting (runs_in c.args.pass.now))) comes.replied comes.broken

pub returns-in-Routes-clause-admitted : goal.returns-in-Routes-clause-admitted
returns-in-Routes-clause-admitted g c =
    let comes = c.answer_routes.ensures.comes None None in
    admits-line g.G.SessionGate.admits (Some wish.Routes) c.answer_routes.result (server_at c.args.pass.now None None) (server_at c.answer_routes.new.pass None None) (λ at. tt) comes.replied comes.broken

pub returns-in-RoutesSince-clause-admitted : goal.returns-in-RoutesSince-clause-admitted
returns-in-RoutesSince-clause-admitted g c =
    let comes = c.answer_since.ensures.comes None None in
    admits-line g.G.SessionGate.admits (Some (wish.RoutesSince c.in-RoutesSince.revision)) c.answer_since.result (server_at c.args.pass.now None None) (server_at c.answer_since.new.pass None None) (λ at. tt) comes.replied comes.broken

pub returns-in-Rows-clause-admitted : goal.returns-in-Rows-clause-admitted
returns-in-Rows-clause-admitted g c =
    let comes = c.answer_page.ensures.comes None None in
    admits-line g.G.SessionGate.admits (Some (wish.Rows c.in-Rows.kind c.in-Rows.after)) c.answer_page.result (server_at c.args.pass.now None None) (server_at c.answer_page.new.pass None None) (λ at. tt) comes.replied comes.broken

pub returns-in-Usage-clause-admitted : goal.returns-in-Usage-clause-admitted
returns-in-Usage-clause-admitted g c =
    let comes = c.answer_usage.ensures.comes None None in
    admits-line g.G.SessionGate.admits (Some wish.Usage) c.answer_usage.result (server_at c.args.pass.now None None) (server_at c.answer_usage.new.pass None None) (λ at. tt) comes.replied comes.broken

pub returns-in-Opened-clause-admitted : goal.returns-in-Opened-clause-admitted
returns-in-Opened-clause-admitted g c = admits-nothing g.G.SessionGate.admits c.args.pass.now
