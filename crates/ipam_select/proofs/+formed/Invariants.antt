use Rattle.std.proofs.Common.{◌≡◌, drop}
use Rattle.ipam_select.specs.Formula.{formulas}
use Rattle.ipam_select.specs.Sound.{are_formed}
use Rattle.ipam_select.proofs.+formed.Given as goal

abbrev pub invariant-sound::are_formed-loop-member : goal.invariant-sound::are_formed-loop-member
invariant-sound::are_formed-loop-member l =
    are_formed l.tight l.depth (formulas l.members) ≡ are_formed l.tight l.depth (formulas (drop l.member-index l.members))
