use Rattle.std.proofs.Common.{Ok, Err, refl}
use Rattle.ipam_operator.proofs.getting.come_to.Goals as goal

pub returns-in-Ok : goal.returns-in-Ok
returns-in-Ok g c = record { asked = (Ok c.in-Ok.rows.items, c.in-Ok.ensures.asked.0, c.in-Ok.ensures.asked.1, (c.by_key.ensures.same, c.by_key.ensures.sorted)) }

pub returns-in-Err : goal.returns-in-Err
returns-in-Err g c = record { asked = (Err c.in-Err.fault, c.in-Err.ensures.asked.0, c.in-Err.ensures.asked.1, refl) }
