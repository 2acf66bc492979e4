use Rattle.std.proofs.Common.{◌↔◌, ap, sym, ◌∙◌, subst, IsTrue, IsSome}
use Rattle.turn_lock.specs.Passes.{Pass as Turns}
use Rattle.ipam_cluster.specs.Cluster.{slot_of_cluster}
use Rattle.ipam_model.specs.declared.entry.Entry.{Entry}
use Rattle.ipam_shared.specs.declared.opened.Opened.{Opened}
use Rattle.ipam_shared.proofs.Passing.{had-turn, turned-pass}
use Rattle.ipam_shared.proofs.shared.Shared.take_turn.Goals as goal

pub returns-in-Ok-clause-turned : goal.returns-in-Ok-clause-turned
returns-in-Ok-clause-turned g c =
    let e = c.in-Ok.ensures in
    had-turn g.D.Keeper.rows g.D.Keeper.settled _ _ _ c.pass.inside.turns c.turn.new.pass c.pass.inside.moment c.in-Ok.entries c.pass.inside.sure c.pass.view_is e.ran.0 e.ran.1 e.turned _
    (λ before after d. subst (λ n. g.W.Deed.does c.args.deed n before.kept c.in-Ok.answer after.kept) (c.number-slot.ensures.is ∙ ap (λ p. p.slot) c.pass.view_is) d.0) e.turned.did.2

pub invariant_of-pass : goal.invariant_of-pass
invariant_of-pass g c =
    let e = c.in-Ok.ensures in
    let number = c.number-slot.ensures.is ∙ sym (ap (λ (t : Turns Opened Entry). t.number) e.ran.1) in
    turned-pass g.D.Keeper.rows g.D.Keeper.settled _ _ _ c.pass.inside.turns c.turn.new.pass c.pass.inside.moment c.in-Ok.entries c.pass.inside.sure c.pass.view_is e.ran.0 e.ran.1 e.turned
    c.in-Ok.running (subst (λ n. IsTrue c.in-Ok.running ↔ IsSome (slot_of_cluster e.turned.after.kept.cluster n)) number e.turned.did.1) e.turned.did.2
