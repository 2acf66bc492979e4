use Rattle.ipam_laws.proofs.BlockHistory.{blocks_stay}
use Rattle.ipam_laws.proofs.blocks.blocks_stay_and_their_sequence_rises.Goals as goal

pub returns : goal.returns
returns c = blocks_stay
