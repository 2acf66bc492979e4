use Rattle.std.proofs.Common.{refl}
use Rattle.ipam_plain.proofs.Unfolded.{runs_computed}
use Rattle.ipam_plain.proofs.runs.calls_that_fail_and_stops.Goals as goal

pub returns-clause-lost_answer : goal.returns-clause-lost_answer
unfolding runs_computed
returns-clause-lost_answer c = refl

pub returns-clause-lost_answer_rows : goal.returns-clause-lost_answer_rows
unfolding runs_computed
returns-clause-lost_answer_rows c = refl

pub returns-clause-failed_write : goal.returns-clause-failed_write
unfolding runs_computed
returns-clause-failed_write c = refl

pub returns-clause-failed_write_rows : goal.returns-clause-failed_write_rows
unfolding runs_computed
returns-clause-failed_write_rows c = refl

pub returns-clause-stopped_add : goal.returns-clause-stopped_add
unfolding runs_computed
returns-clause-stopped_add c = refl

pub returns-clause-stopped_add_rows : goal.returns-clause-stopped_add_rows
unfolding runs_computed
returns-clause-stopped_add_rows c = refl

pub returns-clause-restart_of_idle : goal.returns-clause-restart_of_idle
unfolding runs_computed
returns-clause-restart_of_idle c = refl

pub returns-clause-restart_of_busy : goal.returns-clause-restart_of_busy
unfolding runs_computed
returns-clause-restart_of_busy c = refl
