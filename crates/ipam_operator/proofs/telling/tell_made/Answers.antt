use Rattle.std.proofs.Common.{refl, rules}
use Rattle.ipam_operator.specs.Telling.{Said, Untold}
use Rattle.ipam_operator.proofs.telling.tell_made.Goals as goal

pub returns-in-Ok-clause-written : goal.returns-in-Ok-clause-written
returns-in-Ok-clause-written g c = λ said made. Said _ (search rules)

pub returns-in-Err-clause-written : goal.returns-in-Err-clause-written
returns-in-Err-clause-written g c = λ said made. Untold tt refl refl
