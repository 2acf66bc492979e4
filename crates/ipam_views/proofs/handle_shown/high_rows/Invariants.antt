use Rattle.std.proofs.Common.{◌≡◌, ◌∷◌, map, take}
use Rattle.ipam_views.specs.Handle.{high_head, high_row}
use Rattle.ipam_views.proofs.handle_shown.high_rows.Given as goal

abbrev pub invariant-loop-high : goal.invariant-loop-high
invariant-loop-high l = l.rows.items ≡ high_head ∷ map high_row (take l.high-index l.counts)
