use Rattle.ipam_command.proofs.Writing.{so_far_right}
use Rattle.ipam_command.proofs.headline.what_play_writes_before_a_read_fault_tells_of_a_right_history.Goals as goal

pub returns : goal.returns
returns c = so_far_right
