use Rattle.std.proofs.Common.{◌∙◌}
use Rattle.ipam_cluster.proofs.SlotLemmas.{few_room}
use Rattle.ipam_cluster.proofs.cluster.Cluster.turn.Goals as goal

pub invariant_of-self : goal.invariant_of-self
invariant_of-self c =
    let all = c.go-answer.ensures.many ∙ c.args.self.now.all_slots in
    record { all_slots = all; room = few_room c.go-answer.new.slots.items c.args.self.now.entries all c.requires.few }
