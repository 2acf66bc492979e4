use Rattle.std.proofs.Common.{◌∙◌, [], sym}
use Rattle.ipam_model.specs.Course.{Feed}
use Rattle.ipam_play.specs.Events.{IsToldBy}
use Rattle.ipam_play.proofs.MayHappen.{feed_may, feed_told_not_waiting, feed_told_soon, feed_told_worn, on_ok, on_worn}
use Rattle.ipam_play.proofs.cluster.OpenCluster.may_feed.Goals as goal

pub returns-in_default-clause-refused : goal.returns-in_default-clause-refused
returns-in_default-clause-refused c = λ live. feed_told_not_waiting c.args.self.now.cluster c.args.slot c.args.at live (λ e. c.in_default.not-Waiting (c.state.ensures ∙ e))

pub returns-then-is_early-clause-refused : goal.returns-then-is_early-clause-refused
returns-then-is_early-clause-refused c = λ live.
    feed_told_soon c.args.self.now c.args.slot c.args.at live c.requires.standing (sym c.state.ensures ∙ c.in-Waiting.is) (c.is_early.ensures.early c.if-is_early.true)

pub returns-clause-may : goal.returns-clause-may
returns-clause-may c = λ live.
    on_ok c.unless_worn.result (λ few. feed_may c.args.self.now c.args.slot c.args.at live c.requires.standing (sym c.state.ensures ∙ c.in-Waiting.is) (c.is_early.ensures.late c.if-is_early.false) few) c.unless_worn.ensures.few

pub returns-clause-refused : goal.returns-clause-refused
returns-clause-refused c = λ live.
    on_worn c.unless_worn.result (IsToldBy c.args.self.now.cluster [] (Feed c.args.slot c.args.at live)) c.unless_worn.ensures.told c.unless_worn.ensures.many
    (λ told is many. feed_told_worn c.args.self.now c.args.slot c.args.at live told is c.requires.standing (sym c.state.ensures ∙ c.in-Waiting.is) (c.is_early.ensures.late c.if-is_early.false) many)
