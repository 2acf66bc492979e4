use Rattle.std.proofs.Common.{refl}
use Rattle.ipam_plain.proofs.Unfolded.{runs_computed}
use Rattle.ipam_plain.proofs.runs.races.Goals as goal

pub returns-clause-lost_block_write : goal.returns-clause-lost_block_write
unfolding runs_computed
returns-clause-lost_block_write c = refl

pub returns-clause-two_nodes_race : goal.returns-clause-two_nodes_race
unfolding runs_computed
returns-clause-two_nodes_race c = refl

pub returns-clause-two_nodes_rows : goal.returns-clause-two_nodes_rows
unfolding runs_computed
returns-clause-two_nodes_rows c = refl

pub returns-clause-race_for_one_handle : goal.returns-clause-race_for_one_handle
unfolding runs_computed
returns-clause-race_for_one_handle c = refl

pub returns-clause-race_for_one_address : goal.returns-clause-race_for_one_address
unfolding runs_computed
returns-clause-race_for_one_address c = refl

pub returns-clause-del_loses_its_write : goal.returns-clause-del_loses_its_write
unfolding runs_computed
returns-clause-del_loses_its_write c = refl

pub returns-clause-del_loses_its_lowering : goal.returns-clause-del_loses_its_lowering
unfolding runs_computed
returns-clause-del_loses_its_lowering c = refl
