use Rattle.ipam_operator.proofs.AuditWires.{looks-anew}
use Rattle.ipam_operator.proofs.looking.look_twice.Goals as goal

pub returns : goal.returns
returns g c = record { looked = (c.look_both.new.lines, looks-anew _ _ c.new-lines.ensures _ _ _ _ _ c.look_both.ensures.looked) }
