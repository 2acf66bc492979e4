use Rattle.std.proofs.Common.{ap, inl, sym, subst, ◌∙◌}
use Rattle.ipam_shared.specs.PassValue.{PassValue}
use Rattle.ipam_shared.specs.Settling.{IsSure}
use Rattle.ipam_serve.specs.Keeping.{at_keeper}
use Rattle.ipam_serve.proofs.Sessions.{idle-unsure, same-unsure, serves-same, serves-stop, serves-unsure, session-so}
use Rattle.ipam_serve.proofs.Admitting.{admits-stop, admits-then, admits-unsure}
use Rattle.ipam_serve.proofs.session.serve_session.Goals as goal

pub serve_lines-end-requires-clause-lock : goal.serve_lines-end-requires-clause-lock
serve_lines-end-requires-clause-lock g c = ap (λ (p : PassValue). p.lock) c.forget_sure.ensures ∙ c.requires.lock

pub serve_lines-end-requires-clause-rests : goal.serve_lines-end-requires-clause-rests
serve_lines-end-requires-clause-rests g c = inl (idle-unsure c.args.pass.now c.forget_sure.new.self c.forget_sure.ensures c.requires.idle)

pub stop_last-requires-clause-lock : goal.stop_last-requires-clause-lock
stop_last-requires-clause-lock g c = c.serve_lines-end.ensures.lock ∙ (ap (λ (p : PassValue). p.lock) c.forget_sure.ensures ∙ c.requires.lock)

pub serve_lines-end-requires-clause-sure : goal.serve_lines-end-requires-clause-sure
serve_lines-end-requires-clause-sure g c = subst (λ (p : PassValue). IsSure g.D.Keeper.rows g.D.Keeper.settled p) (sym c.forget_sure.ensures) tt

pub stop_last-requires-clause-left : goal.stop_last-requires-clause-left
stop_last-requires-clause-left g c =
    serves-stop (at_keeper g.D.Keeper.rows g.D.Keeper.settled g.D.Keeper.given g.D.Keeper.faults g.D.Keeper.broken) c.serve_lines-end.result _ _ c.serve_lines-end.ensures.served.1
    (idle-unsure c.args.pass.now c.forget_sure.new.self c.forget_sure.ensures c.requires.idle)

pub returns-clause-served : goal.returns-clause-served
returns-clause-served g c = (
  c.serve_lines-end.ensures.served.0,
  session-so (at_keeper g.D.Keeper.rows g.D.Keeper.settled g.D.Keeper.given g.D.Keeper.faults g.D.Keeper.broken) c.serve_lines-end.result _ _ c.serve_lines-end.new.pass
      (serves-unsure _ c.serve_lines-end.result c.args.pass.now c.forget_sure.new.self _ _ _ _ _ _ _ c.forget_sure.ensures c.serve_lines-end.ensures.served.1) c.stop_last.ensures.stopped,
)

pub returns-clause-same : goal.returns-clause-same
returns-clause-same g c =
    same-unsure c.args.pass.now c.forget_sure.new.self c.stop_last.new.pass c.forget_sure.ensures
    (serves-same (at_keeper g.D.Keeper.rows g.D.Keeper.settled g.D.Keeper.given g.D.Keeper.faults g.D.Keeper.broken) c.serve_lines-end.result _ _ c.stop_last.new.pass c.serve_lines-end.ensures.served.1 c.stop_last.ensures.stopped)

pub returns-clause-admitted : goal.returns-clause-admitted
returns-clause-admitted g c =
    admits-then g.G.SessionGate.admits c.args.pass.now c.forget_sure.new.self c.stop_last.new.pass (admits-unsure g.G.SessionGate.admits c.args.pass.now c.forget_sure.new.self c.forget_sure.ensures)
    (admits-then g.G.SessionGate.admits c.forget_sure.new.self c.serve_lines-end.new.pass c.stop_last.new.pass c.serve_lines-end.ensures.admitted
    (admits-stop g.G.SessionGate.admits c.serve_lines-end.new.pass c.stop_last.new.pass c.stop_last.ensures.stopped))
