use Rattle.std.proofs.Common.{◌≡◌, drop}
use Rattle.ipam_session.specs.Page.{so_far, taken_from}
use Rattle.ipam_session.proofs.taken.take_rows.Given as goal

abbrev pub invariant-loop-row : goal.invariant-loop-row
invariant-loop-row l =
    taken_from l.after (so_far l.taken) (drop l.row-index l.rows) ≡ taken_from l.after (so_far l.initial.taken) l.rows
