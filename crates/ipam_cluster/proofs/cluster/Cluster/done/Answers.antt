use Rattle.std.proofs.Common.{None, List, Option, set, ◌+◌, ap, ◌∙◌, subst}
use Rattle.ipam_cluster.specs.declared.running.Running.{Running}
use Rattle.ipam_cluster.specs.Running.{running_leaves}
use Rattle.ipam_cluster.specs.Slots.{slot_in, RunsOn}
use Rattle.ipam_cluster.proofs.Calling.{done}
use Rattle.ipam_cluster.proofs.cluster.Cluster.done.Goals as goal

pub returns-clause-adds : goal.returns-clause-adds
returns-clause-adds c =
    let slot = c.args.prepared.slot in
    let held = ap (λ items. slot_in items slot) c.apply.ensures.slots ∙ c.requires.runs in
    done c.args.self.now c.turn-answer.new.self c.args.prepared c.requires c.turn-answer.result c.args.self.now.all_slots
    (record {
      answered = c.turn-answer.ensures.answer c.requires.running held;
      gone = λ some. c.turn-answer.ensures.gone some ∙ ap (λ items. set items slot None) c.apply.ensures.slots;
      on = λ none. subst (λ (items : List (Option Running)). RunsOn items c.turn-answer.new.self.slots.items slot c.requires.running (running_leaves c.requires.running c.args.prepared.turned))
          c.apply.ensures.slots (c.turn-answer.ensures.on none c.requires.running held);
    })
    (ap (λ s. s.store) c.turn-answer.ensures.store ∙ c.apply.ensures.store)
    (c.turn-answer.ensures.entries ∙ ap (λ n. n + 1) c.apply.ensures.entries)
