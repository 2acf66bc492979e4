use Rattle.std.proofs.Common.{◌∙◌, refl}
use Rattle.ipam_cluster.proofs.Adding.{due_running, feeds}
use Rattle.ipam_cluster.proofs.SlotLemmas.{few_room}
use Rattle.ipam_cluster.proofs.cluster.Cluster.fed.Goals as goal

pub invariant_of-self-2 : goal.invariant_of-self-2
invariant_of-self-2 c =
    let all = c.feed.ensures.many ∙ c.args.self.now.all_slots in
    record { all_slots = all; room = few_room c.feed.new.slots.items c.args.self.now.entries all c.requires.few }

pub returns-clause-adds : goal.returns-clause-adds
returns-clause-adds c =
    let (was, held, due) = due_running _ c.args.at c.requires.due in
    feeds c.args.self.now _ c.args.slot c.args.at c.args.live.now c.in_ok-copy.copy was c.requires.slot c.args.self.now.all_slots c.requires.few
    held due c.requires.sound c.in_ok-copy.ensures (c.in_ok-feed.ensures.ok was held) refl refl
