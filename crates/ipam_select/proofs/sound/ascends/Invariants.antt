use Rattle.std.proofs.Common.{◌≡◌, ◌-◌, drop}
use Rattle.ipam_select.specs.Sound.{ascends}
use Rattle.ipam_select.proofs.sound.ascends.Given as goal

abbrev pub invariant-loop-i : goal.invariant-loop-i
invariant-loop-i l = ascends l.values ≡ ascends (drop (l.i - 1) l.values)
