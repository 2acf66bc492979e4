use Rattle.std.proofs.Common.{◌≡◌, None, arith, ap}
use Rattle.std.proofs.lemmas.Grind.{common_steps}
use Rattle.ipam_cluster.specs.Cluster.{slot_of_cluster}
use Rattle.ipam_model.specs.declared.entry.Entry.TheVariants as entry
use Rattle.ipam_cluster.proofs.Adding.{stopped, stays_right}
use Rattle.ipam_cluster.proofs.cluster.Cluster.stop.Goals as goal

pub returns-clause-adds : goal.returns-clause-adds
returns-clause-adds c =
    let busy : slot_of_cluster c.args.self.now c.args.slot ≡ None → ⊥ = λ none. grind (arith, common_steps) in
    stopped c.args.self.now c.put.new.self c.args.slot c.requires.slot c.args.self.now.all_slots busy
    (ap (λ s. s.store) c.put.ensures.store) c.put.ensures.entries c.put.ensures.slots

pub returns-clause-right : goal.returns-clause-right
returns-clause-right c =
    stays_right c.args.self.now c.put.new.self (entry.Stopped c.args.slot) (returns-clause-adds c)
