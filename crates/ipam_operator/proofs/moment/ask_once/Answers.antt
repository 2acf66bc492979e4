use Rattle.ipam_operator.specs.Moment.{Before, NoneBefore}
use Rattle.ipam_operator.proofs.moment.ask_once.Goals as goal

pub returns-in-Ok : goal.returns-in-Ok
returns-in-Ok g c = record { asked = Before c.in-Ok.before _ _ _ _ c.in-Ok.ensures.asked c.ask_between.ensures.asked }

pub returns-in-Err : goal.returns-in-Err
returns-in-Err g c = record { asked = NoneBefore c.in-Err.fault _ _ c.in-Err.ensures.asked }
