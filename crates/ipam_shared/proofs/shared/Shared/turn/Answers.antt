use Rattle.ipam_shared.proofs.Calling.{turn-idle, turn-waiting, turn-worn, turn-turned, turn-refused}
use Rattle.ipam_shared.proofs.shared.Shared.turn.Goals as goal

pub returns-clause-idle : goal.returns-clause-idle
returns-clause-idle g c = turn-idle g.D.Keeper.rows g.D.Keeper.settled g.D.Keeper.given g.D.Keeper.faults c.args.pass.now c.take_turn.new.pass c.take_turn.result c.answered.result c.answered.ensures c.take_turn.ensures.spent c.take_turn.ensures.turned

pub returns-clause-waiting : goal.returns-clause-waiting
returns-clause-waiting g c = turn-waiting g.D.Keeper.rows g.D.Keeper.settled g.D.Keeper.given g.D.Keeper.faults c.args.pass.now c.take_turn.new.pass c.take_turn.result c.answered.result c.answered.ensures c.take_turn.ensures.spent c.take_turn.ensures.turned

pub returns-clause-worn : goal.returns-clause-worn
returns-clause-worn g c = turn-worn g.D.Keeper.rows g.D.Keeper.settled g.D.Keeper.given g.D.Keeper.faults c.args.pass.now c.take_turn.new.pass c.take_turn.result c.answered.result c.answered.ensures c.take_turn.ensures.spent c.take_turn.ensures.turned

pub returns-clause-turned : goal.returns-clause-turned
returns-clause-turned g c = turn-turned g.D.Keeper.rows g.D.Keeper.settled g.D.Keeper.given g.D.Keeper.faults c.args.pass.now c.take_turn.new.pass c.take_turn.result c.answered.result c.answered.ensures c.take_turn.ensures.turned

pub returns-clause-refused : goal.returns-clause-refused
returns-clause-refused g c = turn-refused g.D.Keeper.rows g.D.Keeper.settled g.D.Keeper.given g.D.Keeper.faults c.args.pass.now c.take_turn.new.pass c.take_turn.result c.answered.result c.answered.ensures c.take_turn.ensures.turned
