use Rattle.ipam_words.proofs.WordLemmas.{more_sound, one_sound}
use Rattle.ipam_words.proofs.reading.read_words.Goals as goal

pub returns-in-len1-clause-sound : goal.returns-in-len1-clause-sound
returns-in-len1-clause-sound c = one_sound _ c.word_named.result c.word_named.ensures

pub returns-in-len1-up-clause-sound : goal.returns-in-len1-up-clause-sound
returns-in-len1-up-clause-sound c = more_sound _ _ c.more_named.result c.more_named.ensures
