use Rattle.std.proofs.Common.{inr, refl}
use Rattle.ipam_commands.specs.Telling.{Untold}
use Rattle.ipam_commands.proofs.Wanting.{line_wants}
use Rattle.ipam_commands.proofs.telling.tell_fault.Goals as goal

pub returns-in-Keeper-clause-written : goal.returns-in-Keeper-clause-written
returns-in-Keeper-clause-written g c = rw c.in-Keeper.is c.tell.ensures.written

pub returns-clause-written : goal.returns-clause-written
returns-clause-written g c = rw c.in-Memory.is (Untold tt refl refl)

pub returns-in-Keeper-clause-want_of_memory_has_its_cause : goal.returns-in-Keeper-clause-want_of_memory_has_its_cause
returns-in-Keeper-clause-want_of_memory_has_its_cause g c = λ is. absurd (c.tell.ensures.told is)

pub returns-in-Refused-clause-want_of_memory_has_its_cause : goal.returns-in-Refused-clause-want_of_memory_has_its_cause
returns-in-Refused-clause-want_of_memory_has_its_cause g c =
    λ is. inr (line_wants (g.T.MakesBroken.wants c.args.alloc) c.broken_line-line.result c.tell_made.result c.broken_line-line.ensures.wants c.tell_made.ensures.told is)
