use Rattle.std.proofs.Common.{refl}
use Rattle.ipam_shared.proofs.FedStanding.{feed-feeds}
use Rattle.ipam_shared.proofs.SureStanding.{entry-sure}
use Rattle.ipam_shared.proofs.Standing.{feed-keeps}
use Rattle.ipam_shared.proofs.kept.Kept.feed.Goals as goal

pub returns-clause-keeps : goal.returns-clause-keeps
returns-clause-keeps g c =
    feed-keeps g.D.Keeper.rows c.args.self.now (record { cluster = c.feed.new.self; keeper = c.args.self.now.keeper; doubt = c.args.self.now.doubt; ring = c.args.self.now.ring; settled = c.args.self.now.settled }) (record { keeper = refl; doubt = refl }) refl
    c.feed.result c.args.slot c.args.at c.args.live.now c.feed.ensures.entry c.feed.ensures.adds

pub returns-clause-feeds : goal.returns-clause-feeds
returns-clause-feeds g c =
    feed-feeds g.D.Keeper.rows c.args.self.now (record { cluster = c.feed.new.self; keeper = c.args.self.now.keeper; doubt = c.args.self.now.doubt; ring = c.args.self.now.ring; settled = c.args.self.now.settled }) refl c.feed.result c.args.slot c.args.at c.args.live.now c.feed.ensures.entry
    (feed-keeps g.D.Keeper.rows c.args.self.now (record { cluster = c.feed.new.self; keeper = c.args.self.now.keeper; doubt = c.args.self.now.doubt; ring = c.args.self.now.ring; settled = c.args.self.now.settled }) (record { keeper = refl; doubt = refl }) refl
    c.feed.result c.args.slot c.args.at c.args.live.now c.feed.ensures.entry c.feed.ensures.adds)

pub returns-clause-sure : goal.returns-clause-sure
returns-clause-sure g c =
    entry-sure g.D.Keeper.rows g.D.Keeper.settled c.args.self.now (record { cluster = c.feed.new.self; keeper = c.args.self.now.keeper; doubt = c.args.self.now.doubt; ring = c.args.self.now.ring; settled = c.args.self.now.settled }) refl
    c.feed.result refl
