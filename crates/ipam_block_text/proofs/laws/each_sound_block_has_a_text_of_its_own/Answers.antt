use Rattle.ipam_block_text.proofs.Exact.{one_text}
use Rattle.ipam_block_text.proofs.laws.each_sound_block_has_a_text_of_its_own.Goals as goal

pub returns : goal.returns
returns c = one_text
