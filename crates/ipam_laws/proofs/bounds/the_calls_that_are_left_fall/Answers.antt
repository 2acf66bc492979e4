use Rattle.ipam_laws.proofs.CallsFall.{calls_fall}
use Rattle.ipam_laws.proofs.bounds.the_calls_that_are_left_fall.Goals as goal

pub returns : goal.returns
returns c = calls_fall
