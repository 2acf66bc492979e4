use Rattle.std.proofs.Common.{refl}
use Rattle.ipam_plain.proofs.Unfolded.{runs_computed}
use Rattle.ipam_plain.proofs.runs.adds_in_one_ready_block.Goals as goal

pub returns-clause-first_run : goal.returns-clause-first_run
unfolding runs_computed
returns-clause-first_run c = refl

pub returns-clause-ninth_call : goal.returns-clause-ninth_call
unfolding runs_computed
returns-clause-ninth_call c = refl

pub returns-clause-fifth_exhausted : goal.returns-clause-fifth_exhausted
unfolding runs_computed
returns-clause-fifth_exhausted c = refl
