use Rattle.std.proofs.Common.{◌≡◌, ◌∷◌, map, take}
use Rattle.ipam_views.specs.Node.{own_head, own_row}
use Rattle.ipam_views.proofs.node_shown.own_rows.Given as goal

abbrev pub invariant-loop-count : goal.invariant-loop-count
invariant-loop-count l = l.rows.items ≡ own_head ∷ map (own_row l.store.store) (take l.count-index l.counts)
