use Rattle.ipam_shared.proofs.Calling.{stop-idle, stop-keeper}
use Rattle.ipam_shared.proofs.shared.Shared.stop.Goals as goal

pub returns-clause-idle : goal.returns-clause-idle
returns-clause-idle g c = stop-idle g.D.Keeper.rows g.D.Keeper.settled c.args.pass.now c.take_turn.new.pass _ c.take_turn.result c.ok_or.result c.ok_or.ensures.value c.take_turn.ensures.turned c.take_turn.ensures.spent

pub returns-clause-keeper : goal.returns-clause-keeper
returns-clause-keeper g c = stop-keeper g.D.Keeper.rows g.D.Keeper.settled c.args.pass.now c.take_turn.new.pass _ c.take_turn.result c.ok_or.result c.ok_or.ensures.value c.take_turn.ensures.turned
