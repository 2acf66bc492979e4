use Rattle.ipam_block_text.proofs.Exact.{parts_say}
use Rattle.ipam_block_text.proofs.laws.a_text_of_parts_says_their_cidr.Goals as goal

pub returns : goal.returns
returns c = parts_say
