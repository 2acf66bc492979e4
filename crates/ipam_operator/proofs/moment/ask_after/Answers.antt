use Rattle.ipam_operator.specs.Moment.{After, NoneAfter}
use Rattle.ipam_operator.proofs.moment.ask_after.Goals as goal

pub returns-in-Ok : goal.returns-in-Ok
returns-in-Ok g c = record { asked = After c.in-Ok.after _ _ _ c.in-Ok.ensures.asked c.stood.ensures }

pub returns-in-Err : goal.returns-in-Err
returns-in-Err g c = record { asked = NoneAfter c.in-Err.fault _ _ c.in-Err.ensures.asked }
