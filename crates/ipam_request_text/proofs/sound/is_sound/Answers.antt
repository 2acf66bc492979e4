use Rattle.ipam_request_text.proofs.SoundTests.{sound_told}
use Rattle.ipam_request_text.proofs.sound.is_sound.Goals as goal

pub returns : goal.returns
returns c = record {
  exact = c.is_sound_of.ensures;
  value = sound_told _ _ c.is_sound_of.ensures;
}
