use Rattle.std.proofs.Common.{◌≡◌, take}
use Rattle.ipam_block.specs.Sound.{held_ordinals}
use Rattle.ipam_block.proofs.sound.joined.Given as goal

abbrev pub invariant-loop-allocation : goal.invariant-loop-allocation
invariant-loop-allocation l = l.ordinals.items ≡ held_ordinals (take l.allocation-index l.held)
