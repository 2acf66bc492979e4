use Rattle.std.proofs.Common.{◌∙◌, [], sym}
use Rattle.ipam_model.specs.Course.{Turn}
use Rattle.ipam_play.specs.Events.{IsToldBy}
use Rattle.ipam_play.proofs.MayHappen.{on_ok, on_worn, turn_may, turn_told_idle, turn_told_waiting, turn_told_worn}
use Rattle.ipam_play.proofs.cluster.OpenCluster.may_turn.Goals as goal

pub returns-in-Idle-clause-refused : goal.returns-in-Idle-clause-refused
returns-in-Idle-clause-refused c = λ fate. turn_told_idle c.args.self.now.cluster c.args.slot fate (sym c.state.ensures ∙ c.in-Idle.is)

pub returns-in-Waiting-clause-refused : goal.returns-in-Waiting-clause-refused
returns-in-Waiting-clause-refused c = λ fate. turn_told_waiting c.args.self.now.cluster c.args.slot fate (sym c.state.ensures ∙ c.in-Waiting.is)

pub returns-in-Running-clause-may : goal.returns-in-Running-clause-may
returns-in-Running-clause-may c = λ fate.
    on_ok c.unless_worn.result (λ few. turn_may c.args.self.now.cluster c.args.slot fate (sym c.state.ensures ∙ c.in-Running.is) few) c.unless_worn.ensures.few

pub returns-in-Running-clause-refused : goal.returns-in-Running-clause-refused
returns-in-Running-clause-refused c = λ fate.
    on_worn c.unless_worn.result (IsToldBy c.args.self.now.cluster [] (Turn c.args.slot fate)) c.unless_worn.ensures.told c.unless_worn.ensures.many
    (λ told is many. turn_told_worn c.args.self.now.cluster c.args.slot fate told is (sym c.state.ensures ∙ c.in-Running.is) many)
