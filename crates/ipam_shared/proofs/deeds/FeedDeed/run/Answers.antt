use Rattle.ipam_shared.proofs.Holding.{held-by}
use Rattle.ipam_shared.proofs.deeds.FeedDeed.run.Goals as goal

pub returns-clause-keeps : goal.returns-clause-keeps
returns-clause-keeps g c =
    held-by g.D.Keeper.rows g.D.Keeper.settled c.args.kept.now c.feed.new.self c.feed.result c.feed.ensures.feeds c.feed.ensures.still_fed c.feed.ensures.sure c.feed.ensures.still_sure
