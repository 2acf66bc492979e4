use Rattle.std.proofs.Common.{Ok, Err, refl, string_bytes, rules}
use Rattle.ipam_operator.specs.Telling.{Said}
use Rattle.ipam_operator.proofs.Saying.{came_says}
use Rattle.ipam_operator.proofs.routing.routes.Goals as goal

pub returns-in-Ok-clause-told : goal.returns-in-Ok-clause-told
returns-in-Ok-clause-told g c =
    (Ok (string_bytes c.in-Ok.text), c.in-Ok.ensures.asked.0, c.in-Ok.ensures.asked.1, Said _ (search rules))

pub returns-in-Err-clause-told : goal.returns-in-Err-clause-told
returns-in-Err-clause-told g c =
    (Err c.in-Err.fault, c.in-Err.ensures.asked.0, c.in-Err.ensures.asked.1, came_says _ _ refl _ _ _ _ _ _ _ c.tell_fault.ensures.told)
