use Rattle.ipam_operator.specs.Looking.{First, NoneFirst}
use Rattle.ipam_operator.proofs.looking.look_both.Goals as goal

pub returns-in-Ok : goal.returns-in-Ok
returns-in-Ok g c = record { looked = First c.in-Ok.first _ _ _ _ c.in-Ok.ensures.looked c.look_again.ensures.looked }

pub returns-in-Err : goal.returns-in-Err
returns-in-Err g c = record { looked = NoneFirst c.in-Err.fault _ _ c.in-Err.ensures.looked }
