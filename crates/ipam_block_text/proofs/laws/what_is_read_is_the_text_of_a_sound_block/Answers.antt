use Rattle.ipam_block_text.proofs.Sound.{block_reading-ok}
use Rattle.ipam_block_text.proofs.laws.what_is_read_is_the_text_of_a_sound_block.Goals as goal

pub returns : goal.returns
returns c = record { text = λ body b e. (block_reading-ok body b e).0; sound = λ body b e. (block_reading-ok body b e).1 }
