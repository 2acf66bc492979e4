use Rattle.std.proofs.Common.{Ok, Err, refl}
use Rattle.ipam_operator.specs.Telling.{Said}
use Rattle.ipam_operator.proofs.Saying.{came_says}
use Rattle.ipam_operator.proofs.unreserving.unreserve.Goals as goal

pub returns-in-Ok-clause-unreserved : goal.returns-in-Ok-clause-unreserved
returns-in-Ok-clause-unreserved g c =
    (Ok c.in-Ok.answer, c.in-Ok.ensures.asked.0, c.in-Ok.ensures.asked.1, Said _ c.tell_answer.ensures.told)

pub returns-in-Err-clause-unreserved : goal.returns-in-Err-clause-unreserved
returns-in-Err-clause-unreserved g c =
    (Err c.in-Err.fault, c.in-Err.ensures.asked.0, c.in-Err.ensures.asked.1, came_says _ _ refl _ _ _ _ _ _ _ c.tell_fault.ensures.told)
