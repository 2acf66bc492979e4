use Rattle.std.proofs.Common.{ap}
use Rattle.ipam_cluster.proofs.Calling.{fails_before}
use Rattle.ipam_cluster.proofs.cluster.Cluster.failed_before.Goals as goal

pub returns-clause-adds : goal.returns-clause-adds
returns-clause-adds c =
    fails_before c.args.self.now c.put.new.self c.args.prepared c.requires c.args.self.now.all_slots
    c.put.ensures.slots (ap (λ s. s.store) c.put.ensures.store) c.put.ensures.entries
