use Rattle.std.proofs.Common.{Some, None, Ok, Err, refl}
use Rattle.ipam_operator.proofs.backing.back_up_asked.Goals as goal

pub returns-in-Ok-Some-clause-told : goal.returns-in-Ok-Some-clause-told
returns-in-Ok-Some-clause-told g c =
    (Ok (Some c.in-Ok-Some.rows.items), c.in-Ok-Some.ensures.asked.0, rw c.in-Ok-Some.field-0-is at c.in-Ok-Some.ensures.asked.1, rw c.as_slice.ensures.value at c.back_up.ensures.told)

pub returns-in-Ok-None-clause-told : goal.returns-in-Ok-None-clause-told
returns-in-Ok-None-clause-told g c =
    (Ok None, c.in-Ok-None.ensures.asked.0, rw c.in-Ok-None.field-0-is at c.in-Ok-None.ensures.asked.1, (record { rows = refl; settled = refl; faults = refl }, c.tell.ensures.written))

pub returns-in-Err-clause-told : goal.returns-in-Err-clause-told
returns-in-Err-clause-told g c =
    (Err c.in-Err.fault, c.in-Err.ensures.asked.0, c.in-Err.ensures.asked.1, (record { rows = refl; settled = refl; faults = refl }, c.tell_fault.ensures.told))
