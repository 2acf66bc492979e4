use Rattle.std.proofs.Common.{◌≡◌, Some, Option, ◌∙◌, sym, subst, rules}
use Rattle.std.specs.Prelude.{IfNone}
use Rattle.ipam_collect.specs.declared.collect.Grace.{Grace}
use Rattle.ipam_model.specs.declared.entry.SlotState.TheVariants as state
use Rattle.ipam_cluster.proofs.StillLemmas.{waits_with}
use Rattle.ipam_cluster.specs.Cluster.{slot_of_cluster, state_in}
use Rattle.ipam_cluster.proofs.cluster.Cluster.awaited.Goals as goal

pub returns-then-waits-clause-none : goal.returns-then-waits-clause-none
returns-then-waits-clause-none c =
    let (grace, is) = waits_with c.in-Some.running (sym c.waits.ensures ∙ c.if-waits.true) in
    subst (λ (o : Option Grace). IfNone o (¬ (state_in (slot_of_cluster c.args.self.now c.args.slot) ≡ state.Waiting))) (sym (c.grace.ensures ∙ is)) (search rules)
