use Rattle.ipam_operator.specs.Moment.{NoRows, Rows}
use Rattle.ipam_operator.proofs.moment.ask_between.Goals as goal

pub returns-in-Ok : goal.returns-in-Ok
returns-in-Ok g c = record { asked = Rows c.in-Ok.rows.items _ _ _ _ c.in-Ok.ensures.asked c.ask_after.ensures.asked }

pub returns-in-Err : goal.returns-in-Err
returns-in-Err g c = record { asked = NoRows c.in-Err.fault _ _ c.in-Err.ensures.asked }
