use Rattle.ipam_laws.proofs.SoundHistory.{sound_law}
use Rattle.ipam_laws.proofs.records.records_stay_sound.Goals as goal

pub returns : goal.returns
returns c = sound_law
