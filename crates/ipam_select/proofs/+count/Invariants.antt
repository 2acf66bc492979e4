use Rattle.std.proofs.Common.{◌≡◌, ◌+◌, ◌-◌, ◌^◌, ◌≤◌, min, drop}
use Rattle.ipam_select.specs.Formula.{formulas}
use Rattle.ipam_select.specs.Printing.{members_len}
use Rattle.ipam_select.proofs.+count.Given as goal

abbrev pub invariant-counting::members_len-loop-member : goal.invariant-counting::members_len-loop-member
invariant-counting::members_len-loop-member l =
    (l.total ≤ 2 ^ 64 - 1)
    × (min (l.total + members_len l.tight l.lead (formulas (drop l.member-index l.members))) (2 ^ 64 - 1) ≡ min (members_len l.tight 0 (formulas l.members)) (2 ^ 64 - 1))
