use Rattle.ipam_operator.specs.Telling.{Said}
use Rattle.ipam_operator.proofs.Saying.{fault_says}
use Rattle.ipam_operator.proofs.applying.tell_item.Goals as goal

pub returns-in-Ok-Fault-clause-told : goal.returns-in-Ok-Fault-clause-told
returns-in-Ok-Fault-clause-told g c =
    rw (c.in-Ok-Fault.is, c.in-Ok-Fault.field-0-is) (Said _ c.tell.ensures.written)

pub returns-in-Ok-Released-clause-told : goal.returns-in-Ok-Released-clause-told
returns-in-Ok-Released-clause-told g c =
    rw (c.in-Ok-Released.is, c.in-Ok-Released.field-0-is) (Said _ c.tell-in-Ok-Released.ensures.written)

pub returns-in-Ok-NoAffinity-clause-told : goal.returns-in-Ok-NoAffinity-clause-told
returns-in-Ok-NoAffinity-clause-told g c =
    rw (c.in-Ok-NoAffinity.is, c.in-Ok-NoAffinity.field-0-is) (Said _ c.tell-in-Ok-NoAffinity.ensures.written)

pub returns-in-Err-clause-told : goal.returns-in-Err-clause-told
returns-in-Err-clause-told g c =
    rw c.in-Err.is (fault_says _ _ _ _ _ _ _ _ c.tell_fault.ensures.told)
