use Rattle.std.proofs.Common.{Ok, Err}
use Rattle.ipam_operator.proofs.RowsSaying.{fault_says}
use Rattle.ipam_operator.proofs.showing.show.Goals as goal

pub returns-in-Ok-clause-told : goal.returns-in-Ok-clause-told
returns-in-Ok-clause-told g c =
    (Ok c.in-Ok.rows.items, c.in-Ok.ensures.asked.0, rw c.kinds_shown.ensures at c.in-Ok.ensures.asked.1, rw c.as_slice.ensures.value at c.tell_rows.ensures.told)

pub returns-in-Err-clause-told : goal.returns-in-Err-clause-told
returns-in-Err-clause-told g c =
    (Err c.in-Err.fault, c.in-Err.ensures.asked.0, rw c.kinds_shown.ensures at c.in-Err.ensures.asked.1, fault_says _ _ _ _ _ _ _ _ c.tell_fault.ensures.told)
