use Rattle.ipam_shared.proofs.Holding.{held-by}
use Rattle.ipam_shared.proofs.deeds.CallDeed.run.Goals as goal

pub returns-clause-keeps : goal.returns-clause-keeps
returns-clause-keeps g c =
    held-by g.D.Keeper.rows g.D.Keeper.settled c.args.kept.now c.turn.new.self c.turn.result c.turn.ensures.feeds c.turn.ensures.still_fed c.turn.ensures.sure c.turn.ensures.still_sure
