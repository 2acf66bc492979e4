use Rattle.ipam_shared.proofs.Calls.{counts-one, is-called}
use Rattle.ipam_shared.proofs.steps.turn.Goals as goal

pub returns-in-Ok-clause-called : goal.returns-in-Ok-clause-called
returns-in-Ok-clause-called g c =
    rw c.answer_told.ensures
    (is-called g.D.Keeper.rows g.D.Keeper.faults c.args.kept.now c.turn.new.self c.in-Ok.entry g.D.Keeper.given c.requires.kept c.in-Ok.ensures.turned c.in-Ok.ensures.keeps)

pub returns-in-Ok-clause-counts : goal.returns-in-Ok-clause-counts
returns-in-Ok-clause-counts g c =
    counts-one g.D.Keeper.rows g.D.Keeper.faults c.args.kept.now c.turn.new.self c.in-Ok.entry c.requires.kept c.in-Ok.ensures.keeps
    (λ many. let no = c.turn.ensures.worn.1 (many, c.requires.running) in cc (no, c.in-Ok.is))
