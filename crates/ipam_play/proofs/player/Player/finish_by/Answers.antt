use Rattle.std.proofs.Common.{refl}
use Rattle.ipam_play.proofs.Steps.{finishes}
use Rattle.ipam_play.proofs.player.Player.finish_by.Goals as goal

pub returns-in_ok-cluster-in-Gathering-clause-gathered : goal.returns-in_ok-cluster-in-Gathering-clause-gathered
returns-in_ok-cluster-in-Gathering-clause-gathered g c = λ base h.
    finishes c.args.self.now _ c.in-Gathering.gathering c.in_ok-cluster-in-Gathering.cluster c.in-Gathering.is refl base c.in_ok-cluster-in-Gathering.ensures.opens refl h
