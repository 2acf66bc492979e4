use Rattle.ipam_command.proofs.Told.{end_wants}
use Rattle.ipam_command.proofs.cni_calling.refused.Goals as goal

pub returns-clause-want_of_memory_has_its_cause : goal.returns-clause-want_of_memory_has_its_cause
returns-clause-want_of_memory_has_its_cause g c =
    end_wants (g.T.MakesTexts.wants c.args.alloc) c.args.error.now.version c.error_reply.result c.end_of.result c.error_reply.ensures.wants c.end_of.ensures
