use Rattle.ipam_command.proofs.Generating.{generated_right}
use Rattle.ipam_command.proofs.headline.what_is_generated_is_right.Goals as goal

pub returns : goal.returns
returns c = generated_right
