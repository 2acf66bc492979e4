use Rattle.std.proofs.Common.{◌≡◌, drop}
use Rattle.ipam_select.specs.Admitting.{has_part}
use Rattle.ipam_select.proofs.labels.has_part.Given as goal

abbrev pub invariant-loop-at : goal.invariant-loop-at
invariant-loop-at l = has_part l.part l.fn.text ≡ has_part l.part (drop l.at l.fn.text)
