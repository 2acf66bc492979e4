use Rattle.ipam_command.proofs.Writing.{written_right}
use Rattle.ipam_command.proofs.headline.what_play_writes_tells_of_a_right_history.Goals as goal

pub returns : goal.returns
returns c = written_right
