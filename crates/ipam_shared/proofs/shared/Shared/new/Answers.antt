use Rattle.std.proofs.Common.{None, ap, ◌∙◌, subst, sym}
use Rattle.turn_lock.specs.Histories.{NoneBy}
use Rattle.ipam_cluster.specs.declared.cluster.Cluster.{Cluster}
use Rattle.ipam_model.specs.History.{slot_of_entry}
use Rattle.ipam_shared.proofs.Passing.{first-pass, own-history, unused-idle}
use Rattle.ipam_shared.proofs.shared.Shared.new.Goals as goal

pub invariant_of-result : goal.invariant_of-result
invariant_of-result g c = let e = c.in-Ok.ensures.seen in first-pass g.D.Keeper.rows g.D.Keeper.settled c.args.kept c.in-Ok.turns (own-history g.D.Keeper.rows g.D.Keeper.settled c.args.kept c.requires) e.0 e.1
    c.entries-moment.result (c.entries-moment.ensures ∙ ap (λ (k : Cluster). k.entries) c.cluster.ensures)

pub returns-in-Ok-clause-idle : goal.returns-in-Ok-clause-idle
returns-in-Ok-clause-idle g c = unused-idle c.in-Ok.turns c.entries-moment.result None (subst (λ h. NoneBy slot_of_entry c.in-Ok.turns.number h) (sym c.in-Ok.ensures.seen.1) tt)

pub new-requires : goal.new-requires
new-requires g c = own-history g.D.Keeper.rows g.D.Keeper.settled c.args.kept c.requires
