use Rattle.ipam_block_text.proofs.Exact.{sound_block_read}
use Rattle.ipam_block_text.proofs.laws.each_sound_block_is_read_from_its_text.Goals as goal

pub returns : goal.returns
returns c = sound_block_read
