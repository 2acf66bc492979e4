use Rattle.ipam_shared.proofs.Calling.{feed-not_waiting, feed-too_soon, feed-worn, feed-keeper}
use Rattle.ipam_shared.proofs.shared.Shared.feed.Goals as goal

pub returns-clause-not_waiting : goal.returns-clause-not_waiting
returns-clause-not_waiting g c = feed-not_waiting g.D.Keeper.rows g.D.Keeper.settled c.args.live.now c.args.at c.args.pass.now c.take_turn.new.pass c.take_turn.result c.answered.result c.answered.ensures c.take_turn.ensures.spent c.take_turn.ensures.turned

pub returns-clause-too_soon : goal.returns-clause-too_soon
returns-clause-too_soon g c = feed-too_soon g.D.Keeper.rows g.D.Keeper.settled c.args.live.now c.args.at c.args.pass.now c.take_turn.new.pass c.take_turn.result c.answered.result c.answered.ensures c.take_turn.ensures.spent c.take_turn.ensures.turned

pub returns-clause-worn : goal.returns-clause-worn
returns-clause-worn g c = feed-worn g.D.Keeper.rows g.D.Keeper.settled c.args.live.now c.args.at c.args.pass.now c.take_turn.new.pass c.take_turn.result c.answered.result c.answered.ensures c.take_turn.ensures.spent c.take_turn.ensures.turned

pub returns-clause-keeper : goal.returns-clause-keeper
returns-clause-keeper g c = feed-keeper g.D.Keeper.rows g.D.Keeper.settled c.args.live.now c.args.at c.args.pass.now c.take_turn.new.pass c.take_turn.result c.answered.result c.answered.ensures c.take_turn.ensures.spent c.take_turn.ensures.turned
