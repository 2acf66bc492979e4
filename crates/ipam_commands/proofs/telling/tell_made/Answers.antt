use Rattle.std.proofs.Common.{refl}
use Rattle.ipam_commands.specs.Telling.{Untold}
use Rattle.ipam_commands.proofs.telling.tell_made.Goals as goal

pub returns-in-Err-clause-written : goal.returns-in-Err-clause-written
returns-in-Err-clause-written g c = λ said made. Untold c.requires.made refl refl
