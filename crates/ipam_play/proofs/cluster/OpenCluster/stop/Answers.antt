use Rattle.std.proofs.Common.{refl}
use Rattle.ipam_play.specs.declared.cluster.OpenCluster.{OpenCluster}
use Rattle.ipam_play.proofs.Timings.{timed_stopped}
use Rattle.ipam_play.proofs.cluster.OpenCluster.stop.Goals as goal

pub returns-clause-timed : goal.returns-clause-timed
returns-clause-timed c = λ timed.
    let new : OpenCluster = record { cluster = c.stop.new.self; at = c.args.self.now.at; grace = c.args.self.now.grace } in
    timed_stopped c.args.self.now new c.args.slot timed c.stop.ensures.idle_after c.stop.ensures.others refl refl
