use Rattle.ipam_cluster.proofs.Adding.{stays_right}
use Rattle.ipam_cluster.proofs.cluster.Cluster.commit.Goals as goal

pub returns-in-Well-clause-right : goal.returns-in-Well-clause-right
returns-in-Well-clause-right c =
    stays_right c.args.self.now c.done.new.self c.done.result c.done.ensures.adds

pub returns-in-Before-clause-right : goal.returns-in-Before-clause-right
returns-in-Before-clause-right c =
    stays_right c.args.self.now c.failed_before.new.self c.failed_before.result c.failed_before.ensures.adds

pub returns-in-After-clause-right : goal.returns-in-After-clause-right
returns-in-After-clause-right c =
    stays_right c.args.self.now c.failed_after.new.self c.failed_after.result c.failed_after.ensures.adds
