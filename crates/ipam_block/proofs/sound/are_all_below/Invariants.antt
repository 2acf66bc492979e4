use Rattle.std.proofs.Common.{◌≡◌, ◌==◌, take, map}
use Rattle.std.specs.List.{list_any}
use Rattle.ipam_block.specs.Sound.{ordinals_below}
use Rattle.ipam_block.proofs.sound.are_all_below.Given as goal

-- the ordinals so far are marked
abbrev pub invariant-loop-ordinal : goal.invariant-loop-ordinal
invariant-loop-ordinal l = l.marks.items ≡ map (λ o. list_any (λ x. x == o) (take l.ordinal-index l.ordinals)) (ordinals_below l.count)
