use Rattle.ipam_command.proofs.Generating.{counted_right}
use Rattle.ipam_command.proofs.headline.what_gen_writes_is_counted_on_a_right_history.Goals as goal

pub returns : goal.returns
returns c = counted_right
