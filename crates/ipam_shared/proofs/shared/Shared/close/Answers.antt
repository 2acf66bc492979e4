use Rattle.ipam_shared.proofs.Passing.{closed-past}
use Rattle.ipam_shared.proofs.shared.Shared.close.Goals as goal

pub returns : goal.returns
returns g c =
    closed-past g.D.Keeper.rows g.D.Keeper.settled c.close.result c.pass.inside.turns c.pass.inside.moment c.pass.inside.sure c.args.pass c.pass.view_is c.close.ensures
