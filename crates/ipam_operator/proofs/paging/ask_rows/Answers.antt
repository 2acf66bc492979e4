use Rattle.ipam_operator.proofs.RowsWires.{rows-anew}
use Rattle.ipam_operator.proofs.paging.ask_rows.Goals as goal

pub returns : goal.returns
returns g c = record { asked = (c.ask_kinds.new.lines, rows-anew _ _ _ _ c.new-lines.ensures _ _ _ _ _ c.ask_kinds.ensures.asked) }
