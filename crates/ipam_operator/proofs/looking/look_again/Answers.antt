use Rattle.std.proofs.Common.{rules}
use Rattle.ipam_operator.specs.Looking.{NoneAgain, Stands}
use Rattle.ipam_operator.proofs.looking.look_again.Goals as goal

pub returns-in-Ok : goal.returns-in-Ok
returns-in-Ok g c = record { looked = Stands c.in-Ok.second _ _ _ c.in-Ok.ensures.looked (search rules) }

pub returns-in-Err : goal.returns-in-Err
returns-in-Err g c = record { looked = NoneAgain c.in-Err.fault _ _ c.in-Err.ensures.looked }
