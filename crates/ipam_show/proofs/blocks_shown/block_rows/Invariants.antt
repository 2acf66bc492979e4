use Rattle.std.proofs.Common.{◌≡◌, ◌∷◌, map, take}
use Rattle.ipam_show.specs.Blocks.{block_head, block_row}
use Rattle.ipam_show.proofs.blocks_shown.block_rows.Given as goal

abbrev pub invariant-loop-count : goal.invariant-loop-count
invariant-loop-count l = l.rows.items ≡ block_head ∷ map (block_row l.store.store) (take l.count-index l.counts)
