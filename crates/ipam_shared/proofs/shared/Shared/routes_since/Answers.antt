use Rattle.ipam_shared.proofs.Routing.{since-changes, since-compacted, since-ahead}
use Rattle.ipam_shared.proofs.shared.Shared.routes_since.Goals as goal

pub returns-clause-changes : goal.returns-clause-changes
returns-clause-changes g c = since-changes g.D.Keeper.rows g.D.Keeper.settled c.args.revision c.args.pass.now c.take_turn.new.pass c.take_turn.result c.answered.result c.answered.ensures c.take_turn.ensures.spent c.take_turn.ensures.turned

pub returns-clause-compacted : goal.returns-clause-compacted
returns-clause-compacted g c = since-compacted g.D.Keeper.rows g.D.Keeper.settled c.args.revision c.args.pass.now c.take_turn.new.pass c.take_turn.result c.answered.result c.answered.ensures c.take_turn.ensures.spent c.take_turn.ensures.turned

pub returns-clause-ahead : goal.returns-clause-ahead
returns-clause-ahead g c = since-ahead g.D.Keeper.rows g.D.Keeper.settled c.args.revision c.args.pass.now c.take_turn.new.pass c.take_turn.result c.answered.result c.answered.ensures c.take_turn.ensures.spent c.take_turn.ensures.turned
