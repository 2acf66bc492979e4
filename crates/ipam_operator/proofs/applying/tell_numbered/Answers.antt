use Rattle.ipam_operator.specs.Telling.{Said}
use Rattle.ipam_operator.proofs.applying.tell_numbered.Goals as goal

pub returns-in-Some-clause-told : goal.returns-in-Some-clause-told
returns-in-Some-clause-told g c =
    rw (← c.in-Some.ensures) (c.tell_made.ensures.written _ c.refused_line.ensures)

pub returns-in-None-clause-told : goal.returns-in-None-clause-told
returns-in-None-clause-told g c =
    rw (← c.in-None.ensures) (Said _ c.tell.ensures.written)
