use Rattle.std.proofs.Common.{◌≡◌, ◌∷◌, map, take}
use Rattle.ipam_words.specs.Views.{chosen_by}
use Rattle.ipam_show.specs.Addresses.{use_head, use_row}
use Rattle.ipam_show.proofs.addresses_shown.use_rows.Given as goal

abbrev pub invariant-loop-used : goal.invariant-loop-used
invariant-loop-used l = l.rows.items ≡ use_head (chosen_by l.chosen) ∷ map (use_row (chosen_by l.chosen)) (take l.used-index l.uses)
