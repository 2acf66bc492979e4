use Rattle.ipam_block.proofs.Tested.{is_block-true, true-is_block}
use Rattle.ipam_block.proofs.laws.contents_of_blocks_pass_the_test.Goals as goal

pub returns : goal.returns
returns c b range small = (is_block-true b range small, true-is_block b)
