use Rattle.ipam_shared.proofs.Holding.{held-if}
use Rattle.ipam_shared.proofs.deeds.StopDeed.run.Goals as goal

pub returns-clause-keeps : goal.returns-clause-keeps
returns-clause-keeps g c =
    held-if g.D.Keeper.rows g.D.Keeper.settled c.args.kept.now c.stop.new.self c.stop.result c.stop.ensures.feeds c.stop.ensures.still_fed c.stop.ensures.sure c.stop.ensures.still_sure
