use Rattle.std.proofs.Common.{refl}
use Rattle.ipam_shared.proofs.FedStanding.{begin-feeds}
use Rattle.ipam_shared.proofs.SureStanding.{entry-sure}
use Rattle.ipam_shared.proofs.Standing.{begin-keeps}
use Rattle.ipam_shared.proofs.kept.Kept.begin.Goals as goal

pub returns-clause-keeps : goal.returns-clause-keeps
returns-clause-keeps g c =
    begin-keeps g.D.Keeper.rows c.args.self.now (record { cluster = c.begin.new.self; keeper = c.args.self.now.keeper; doubt = c.args.self.now.doubt; ring = c.args.self.now.ring; settled = c.args.self.now.settled }) (record { keeper = refl; doubt = refl }) refl
    c.begin.result c.args.slot c.args.request.now c.begin.ensures.entry c.begin.ensures.adds

pub returns-clause-feeds : goal.returns-clause-feeds
returns-clause-feeds g c =
    begin-feeds g.D.Keeper.rows c.args.self.now (record { cluster = c.begin.new.self; keeper = c.args.self.now.keeper; doubt = c.args.self.now.doubt; ring = c.args.self.now.ring; settled = c.args.self.now.settled }) refl c.begin.result c.args.slot c.args.request.now c.begin.ensures.entry
    (begin-keeps g.D.Keeper.rows c.args.self.now (record { cluster = c.begin.new.self; keeper = c.args.self.now.keeper; doubt = c.args.self.now.doubt; ring = c.args.self.now.ring; settled = c.args.self.now.settled }) (record { keeper = refl; doubt = refl }) refl
    c.begin.result c.args.slot c.args.request.now c.begin.ensures.entry c.begin.ensures.adds)

pub returns-clause-sure : goal.returns-clause-sure
returns-clause-sure g c =
    entry-sure g.D.Keeper.rows g.D.Keeper.settled c.args.self.now (record { cluster = c.begin.new.self; keeper = c.args.self.now.keeper; doubt = c.args.self.now.doubt; ring = c.args.self.now.ring; settled = c.args.self.now.settled }) refl
    c.begin.result refl
