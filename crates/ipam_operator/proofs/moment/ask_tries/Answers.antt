use Rattle.ipam_operator.proofs.BackupWires.{tries-anew}
use Rattle.ipam_operator.proofs.moment.ask_tries.Goals as goal

pub returns : goal.returns
returns g c = record { asked = (c.ask_often.new.lines, tries-anew _ _ _ c.new-lines.ensures _ _ _ _ _ c.ask_often.ensures.asked) }
