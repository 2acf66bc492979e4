use Rattle.ipam_shared.proofs.Looking.{look-told}
use Rattle.ipam_shared.proofs.shared.Shared.look.Goals as goal

pub returns-clause-told : goal.returns-clause-told
returns-clause-told g c = look-told g.D.Keeper.rows g.D.Keeper.settled (g.L.Look.tells c.args.look) c.args.pass.now c.take_turn.new.pass _ c.take_turn.result c.ok_or.result c.ok_or.ensures.value c.take_turn.ensures.turned
