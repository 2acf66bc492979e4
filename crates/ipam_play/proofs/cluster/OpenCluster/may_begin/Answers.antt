use Rattle.std.proofs.Common.{◌∙◌, [], sym}
use Rattle.ipam_model.specs.Course.{Begin}
use Rattle.ipam_play.specs.Events.{IsToldBy}
use Rattle.ipam_play.proofs.MayHappen.{begin_may, begin_told_busy, begin_told_worn, on_ok, on_worn}
use Rattle.ipam_play.proofs.cluster.OpenCluster.may_begin.Goals as goal

pub returns-in-Idle-clause-may : goal.returns-in-Idle-clause-may
returns-in-Idle-clause-may c = λ request.
    on_ok c.unless_worn.result (λ few. begin_may c.args.self.now.cluster c.args.slot request (sym c.state.ensures ∙ c.in-Idle.is) few) c.unless_worn.ensures.few

pub returns-in-Idle-clause-refused : goal.returns-in-Idle-clause-refused
returns-in-Idle-clause-refused c = λ request.
    on_worn c.unless_worn.result (IsToldBy c.args.self.now.cluster [] (Begin c.args.slot request)) c.unless_worn.ensures.told c.unless_worn.ensures.many
    (λ told is many. begin_told_worn c.args.self.now.cluster c.args.slot request told is (sym c.state.ensures ∙ c.in-Idle.is) many)

pub returns-in_default-clause-refused : goal.returns-in_default-clause-refused
returns-in_default-clause-refused c = λ request. begin_told_busy c.args.self.now.cluster c.args.slot request (λ e. c.in_default.not-Idle (c.state.ensures ∙ e))
