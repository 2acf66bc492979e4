use Rattle.ipam_laws.proofs.BlockHistory.{stamps}
use Rattle.ipam_laws.proofs.blocks.no_block_gives_a_stamp_again.Goals as goal

pub returns : goal.returns
returns c = stamps
