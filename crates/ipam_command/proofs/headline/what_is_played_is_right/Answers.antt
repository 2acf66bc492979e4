use Rattle.ipam_command.proofs.Playing.{played_right}
use Rattle.ipam_command.proofs.headline.what_is_played_is_right.Goals as goal

pub returns : goal.returns
returns c = played_right
