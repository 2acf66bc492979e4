use Rattle.ipam_shared.proofs.Holding.{held-by}
use Rattle.ipam_shared.proofs.deeds.BeginDeed.run.Goals as goal

pub returns-clause-keeps : goal.returns-clause-keeps
returns-clause-keeps g c =
    held-by g.D.Keeper.rows g.D.Keeper.settled c.args.kept.now c.begin.new.self c.begin.result c.begin.ensures.feeds c.begin.ensures.still_fed c.begin.ensures.sure c.begin.ensures.still_sure
