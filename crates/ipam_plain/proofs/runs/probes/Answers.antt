use Rattle.std.proofs.Common.{refl}
use Rattle.ipam_plain.proofs.Unfolded.{runs_computed, names_read}
use Rattle.ipam_plain.proofs.runs.probes.Goals as goal

pub returns-clause-ready_from_any : goal.returns-clause-ready_from_any
unfolding runs_computed
returns-clause-ready_from_any c = refl

pub returns-clause-ready_from_named : goal.returns-clause-ready_from_named
unfolding runs_computed
returns-clause-ready_from_named c = refl

pub returns-clause-ready_for_another_node : goal.returns-clause-ready_for_another_node
unfolding runs_computed
returns-clause-ready_for_another_node c = refl

pub returns-clause-probe_of_unknown_name : goal.returns-clause-probe_of_unknown_name
unfolding runs_computed names_read
returns-clause-probe_of_unknown_name c = refl

pub returns-clause-exhausted_in_one_family : goal.returns-clause-exhausted_in_one_family
unfolding runs_computed
returns-clause-exhausted_in_one_family c = refl
