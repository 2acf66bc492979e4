use Rattle.ipam_command.proofs.Told.{answer_told, end_wants}
use Rattle.ipam_command.specs.Calls.{KeeperFailed}
use Rattle.ipam_command.proofs.cni_calling.answer_end.Goals as goal

pub returns-in-Fault-clause-ends : goal.returns-in-Fault-clause-ends
returns-in-Fault-clause-ends g c = KeeperFailed c.in-Fault.is

pub returns-in_default-clause-ends : goal.returns-in_default-clause-ends
returns-in_default-clause-ends g c =
    answer_told c.args.request.now c.args.answer.now c.args.version c.reply.result c.end_of.result
    c.in_default.not-Fault c.reply.ensures.told c.end_of.ensures

pub returns-in_default-clause-want_of_memory_has_its_cause : goal.returns-in_default-clause-want_of_memory_has_its_cause
returns-in_default-clause-want_of_memory_has_its_cause g c =
    end_wants (g.T.MakesTexts.wants c.args.alloc) c.args.version c.reply.result c.end_of.result c.reply.ensures.wants c.end_of.ensures
