use Rattle.ipam_block_text.proofs.Exact.{unsound_said}
use Rattle.ipam_block_text.proofs.laws.an_unsound_text_says_the_cidr_of_its_fault.Goals as goal

pub returns : goal.returns
returns c = unsound_said
