use Rattle.ipam_commands.proofs.Wanting.{line_wants}
use Rattle.ipam_commands.proofs.told_apply.tell_applied.Goals as goal

pub returns-in_default-clause-want_of_memory_has_its_cause : goal.returns-in_default-clause-want_of_memory_has_its_cause
returns-in_default-clause-want_of_memory_has_its_cause g c =
    λ is. line_wants (g.T.MakesLines.wants c.args.alloc) c.applied_line-line.result c.tell_made.result c.applied_line-line.ensures.wants c.tell_made.ensures.told (cc is)
