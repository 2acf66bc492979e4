use Rattle.ipam_operator.specs.Looking.{Came, Unasked}
use Rattle.ipam_operator.proofs.looking.look.Goals as goal

pub returns-in-Ok : goal.returns-in-Ok
returns-in-Ok g c = record { looked = Came c.in-Ok.rows.items _ _ _ c.in-Ok.ensures.asked (rw c.as_slice.ensures.value at c.report_of_rows.ensures) }

pub returns-in-Err : goal.returns-in-Err
returns-in-Err g c = record { looked = Unasked c.in-Err.fault _ _ c.in-Err.ensures.asked }
