use Rattle.ipam_cluster.proofs.Adding.{stays_right}
use Rattle.ipam_cluster.proofs.cluster.Cluster.feed.Goals as goal

pub returns-in-Ok-clause-right : goal.returns-in-Ok-clause-right
returns-in-Ok-clause-right c =
    stays_right c.args.self.now c.fed.new.self c.in-Ok.entry c.in-Ok.ensures.adds
