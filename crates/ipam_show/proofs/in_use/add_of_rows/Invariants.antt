use Rattle.std.proofs.Common.{◌≡◌, ◌++◌, drop}
use Rattle.ipam_words.specs.Views.{chosen_by}
use Rattle.ipam_show.specs.InUse.{uses_in}
use Rattle.ipam_show.proofs.in_use.add_of_rows.Given as goal

abbrev pub invariant-loop-row : goal.invariant-loop-row
invariant-loop-row l =
    l.uses.items ++ uses_in (chosen_by l.chosen) (drop l.row-index l.rows)
    ≡ l.initial.uses.items ++ uses_in (chosen_by l.chosen) l.rows
