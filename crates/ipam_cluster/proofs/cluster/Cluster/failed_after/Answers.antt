use Rattle.std.proofs.Common.{None, set, ◌+◌, ap, ◌∙◌}
use Rattle.ipam_cluster.proofs.Calling.{fails_after}
use Rattle.ipam_cluster.proofs.cluster.Cluster.failed_after.Goals as goal

pub returns-clause-adds : goal.returns-clause-adds
returns-clause-adds c =
    fails_after c.args.self.now c.put.new.self c.args.prepared c.requires c.args.self.now.all_slots
    (c.put.ensures.slots ∙ ap (λ items. set items c.args.prepared.slot None) c.apply.ensures.slots)
    (ap (λ s. s.store) c.put.ensures.store ∙ c.apply.ensures.store)
    (c.put.ensures.entries ∙ ap (λ n. n + 1) c.apply.ensures.entries)
