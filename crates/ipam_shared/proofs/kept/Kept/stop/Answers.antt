use Rattle.std.proofs.Common.{refl}
use Rattle.ipam_shared.proofs.FedStanding.{stop-feeds}
use Rattle.ipam_shared.proofs.SureStanding.{stop-sure}
use Rattle.ipam_shared.proofs.Standing.{stop-keeps}
use Rattle.ipam_shared.proofs.kept.Kept.stop.Goals as goal

pub returns-clause-keeps : goal.returns-clause-keeps
returns-clause-keeps g c =
    stop-keeps g.D.Keeper.rows c.args.self.now (record { cluster = c.stop.new.self; keeper = c.args.self.now.keeper; doubt = c.args.self.now.doubt; ring = c.args.self.now.ring; settled = c.args.self.now.settled }) (record { keeper = refl; doubt = refl }) refl
    c.stop.result c.args.slot c.stop.ensures.entry c.stop.ensures.adds

pub returns-clause-feeds : goal.returns-clause-feeds
returns-clause-feeds g c =
    stop-feeds g.D.Keeper.rows c.args.self.now (record { cluster = c.stop.new.self; keeper = c.args.self.now.keeper; doubt = c.args.self.now.doubt; ring = c.args.self.now.ring; settled = c.args.self.now.settled }) refl c.stop.result c.args.slot c.stop.ensures.entry
    (stop-keeps g.D.Keeper.rows c.args.self.now (record { cluster = c.stop.new.self; keeper = c.args.self.now.keeper; doubt = c.args.self.now.doubt; ring = c.args.self.now.ring; settled = c.args.self.now.settled }) (record { keeper = refl; doubt = refl }) refl
    c.stop.result c.args.slot c.stop.ensures.entry c.stop.ensures.adds)

pub returns-clause-sure : goal.returns-clause-sure
returns-clause-sure g c =
    stop-sure g.D.Keeper.rows g.D.Keeper.settled c.args.self.now (record { cluster = c.stop.new.self; keeper = c.args.self.now.keeper; doubt = c.args.self.now.doubt; ring = c.args.self.now.ring; settled = c.args.self.now.settled }) refl
    c.stop.result refl
