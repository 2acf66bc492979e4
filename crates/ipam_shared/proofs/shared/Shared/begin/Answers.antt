use Rattle.ipam_shared.proofs.Calling.{begin-busy, begin-worn, begin-keeper}
use Rattle.ipam_shared.proofs.shared.Shared.begin.Goals as goal

pub returns-clause-busy : goal.returns-clause-busy
returns-clause-busy g c = begin-busy g.D.Keeper.rows g.D.Keeper.settled c.args.request.now c.args.pass.now c.take_turn.new.pass c.take_turn.result c.answered.result c.answered.ensures c.take_turn.ensures.spent c.take_turn.ensures.turned

pub returns-clause-worn : goal.returns-clause-worn
returns-clause-worn g c = begin-worn g.D.Keeper.rows g.D.Keeper.settled c.args.request.now c.args.pass.now c.take_turn.new.pass c.take_turn.result c.answered.result c.answered.ensures c.take_turn.ensures.spent c.take_turn.ensures.turned

pub returns-clause-keeper : goal.returns-clause-keeper
returns-clause-keeper g c = begin-keeper g.D.Keeper.rows g.D.Keeper.settled c.args.request.now c.args.pass.now c.take_turn.new.pass c.take_turn.result c.answered.result c.answered.ensures c.take_turn.ensures.spent c.take_turn.ensures.turned
