use Rattle.std.proofs.Common.{sym, ap, ◌∙◌}
use Rattle.ipam_shared.specs.Origins.{base_in}
use Rattle.ipam_shared.specs.PassValue.{PassValue}
use Rattle.ipam_shared.specs.Passes.{runs_in}
use Rattle.ipam_shared.proofs.Passing.{grown-runs, joined-pass}
use Rattle.ipam_shared.proofs.shared.Shared.join.Goals as goal

pub invariant_of-into : goal.invariant_of-into
invariant_of-into g c = let e = c.join.ensures in
    joined-pass g.D.Keeper.rows g.D.Keeper.settled c.into.inside.turns c.join.new.into c.into.inside.moment c.into.inside.sure c.into.inside.running c.into.invariant e.same e.seen e.stood

pub returns-clause-slot : goal.returns-clause-slot
returns-clause-slot g c = let e = c.join.ensures in grown-runs c.into.inside.turns c.join.new.into c.into.inside.moment c.into.inside.sure e.same e.seen ∙ ap runs_in c.into.view_is

pub returns-clause-base : goal.returns-clause-base
returns-clause-base g c = sym (ap (λ (p : PassValue). p.base) c.other.view_is) ∙ ap base_in c.join.ensures.origin
