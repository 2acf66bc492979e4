use Rattle.ipam_select.specs.Printing as text
use Rattle.ipam_select.proofs.Exact.{read_again, sound_reads}
use Rattle.ipam_select.proofs.Ordered.{ascends-ascending, has_value-ascending}
use Rattle.ipam_select.proofs.Whole.{reading_sound, reading_complete}
use Rattle.ipam_select.proofs.laws.readings.Goals as goal

pub returns-clause-exact : goal.returns-clause-exact
returns-clause-exact c = λ t f. (reading_sound t f, reading_complete t f)

pub returns-clause-printed : goal.returns-clause-printed
returns-clause-printed c = λ t f h. reading_complete (text.printed f) f (read_again t f h)

pub returns-clause-sound : goal.returns-clause-sound
returns-clause-sound c = λ f h. reading_complete (text.printed f) f (sound_reads f h)

pub returns-clause-values : goal.returns-clause-values
returns-clause-values c = λ vs. ascends-ascending vs

pub returns-clause-same_values : goal.returns-clause-same_values
returns-clause-same_values c = λ v vs. has_value-ascending v vs
