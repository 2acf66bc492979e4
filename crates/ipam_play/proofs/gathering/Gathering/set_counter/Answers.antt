use Rattle.std.proofs.Common.{refl, sym, ◌∙◌}
use Rattle.ipam_play.proofs.Gatherings.{gathers_counter, was_given, was_not_given}
use Rattle.ipam_play.proofs.gathering.Gathering.set_counter.Goals as goal

pub returns-in-Given-clause-again : goal.returns-in-Given-clause-again
returns-in-Given-clause-again c = λ gathered h. (was_given c.args.self.now gathered h c.in-Given.is, refl, h)

pub returns-in-Greatest-clause-set : goal.returns-in-Greatest-clause-set
returns-in-Greatest-clause-set c = λ gathered h.
    (was_not_given c.args.self.now gathered h (λ e. cc (sym c.in-Greatest.is ∙ e)), gathers_counter c.args.self.now _ gathered c.args.counter h refl refl refl)
