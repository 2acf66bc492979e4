use Rattle.ipam_shared.proofs.Routing.{routes-routes}
use Rattle.ipam_shared.proofs.shared.Shared.routes.Goals as goal

pub returns-clause-routes : goal.returns-clause-routes
returns-clause-routes g c = routes-routes g.D.Keeper.rows g.D.Keeper.settled c.args.pass.now c.take_turn.new.pass c.take_turn.result c.answered.result c.answered.ensures c.take_turn.ensures.turned
