use Rattle.std.proofs.Common.{refl}
use Rattle.ipam_plain.proofs.Unfolded.{runs_computed}
use Rattle.ipam_plain.proofs.runs.events_that_are_refused.Goals as goal

pub returns-clause-call_of_idle : goal.returns-clause-call_of_idle
unfolding runs_computed
returns-clause-call_of_idle c = refl

pub returns-clause-stop_of_idle : goal.returns-clause-stop_of_idle
unfolding runs_computed
returns-clause-stop_of_idle c = refl

pub returns-clause-begin_of_busy : goal.returns-clause-begin_of_busy
unfolding runs_computed
returns-clause-begin_of_busy c = refl
