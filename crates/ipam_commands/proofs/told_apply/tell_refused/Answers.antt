use Rattle.std.proofs.Common.{refl}
use Rattle.ipam_resources.specs.Printed.{answer_refusal}
use Rattle.ipam_commands.specs.Telling.{Untold}
use Rattle.ipam_commands.proofs.Wanting.{line_wants}
use Rattle.ipam_commands.proofs.Steps.{some-value}
use Rattle.ipam_commands.proofs.told_apply.tell_refused.Goals as goal

pub returns-in-Err-clause-told : goal.returns-in-Err-clause-told
returns-in-Err-clause-told g c =
    let why = some-value (answer_refusal c.args.answer.now) c.requires in
    (why.0, why.1, Untold tt refl refl)

pub returns-in-Err-clause-want_of_memory_has_its_cause : goal.returns-in-Err-clause-want_of_memory_has_its_cause
returns-in-Err-clause-want_of_memory_has_its_cause g c = λ is. c.in-Err.ensures.wants

pub returns-in-Ok-Some-clause-want_of_memory_has_its_cause : goal.returns-in-Ok-Some-clause-want_of_memory_has_its_cause
returns-in-Ok-Some-clause-want_of_memory_has_its_cause g c =
    λ is. line_wants (g.T.MakesLines.wants c.args.alloc) c.refused_line-line.result c.tell_made.result c.refused_line-line.ensures.wants c.tell_made.ensures.told is
