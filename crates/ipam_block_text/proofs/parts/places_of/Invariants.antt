use Rattle.std.proofs.Common.{◌≡◌, map}
use Rattle.ipam_block.specs.Sound.{ordinals_below}
use Rattle.ipam_block_text.specs.Numbering.{index_at}
use Rattle.ipam_block_text.proofs.Numbers.{IsAt}
use Rattle.ipam_block_text.proofs.parts.places_of.Given as goal

-- the places so far, and how far the walk has come
abbrev pub invariant-loop-ordinal : goal.invariant-loop-ordinal
invariant-loop-ordinal l = record {
  places : l.places.items ≡ map (index_at l.held) (ordinals_below l.ordinal);
  at : IsAt l.held l.next l.ordinal;
}
