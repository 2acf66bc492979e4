use Rattle.std.proofs.Common.{◌∙◌, sym}
use Rattle.ipam_play.proofs.MayHappen.{stop_may, stop_told_idle}
use Rattle.ipam_play.proofs.cluster.OpenCluster.may_stop.Goals as goal

pub returns-in-Idle-clause-refused : goal.returns-in-Idle-clause-refused
returns-in-Idle-clause-refused c = stop_told_idle c.args.self.now.cluster c.args.slot (sym c.state.ensures ∙ c.in-Idle.is)

pub returns-in_default-clause-may : goal.returns-in_default-clause-may
returns-in_default-clause-may c = stop_may c.args.self.now.cluster c.args.slot (λ e. c.in_default.not-Idle (c.state.ensures ∙ e))
