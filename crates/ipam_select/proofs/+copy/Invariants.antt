use Rattle.std.proofs.Common.{◌≡◌, map, take}
use Rattle.ipam_select.specs.Formula.{formula}
use Rattle.ipam_select.proofs.+copy.Given as goal

abbrev pub invariant-copying::copied-loop-i : goal.invariant-copying::copied-loop-i
invariant-copying::copied-loop-i l = map formula l.all.items ≡ map formula (take l.i l.members)
