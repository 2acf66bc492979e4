use Rattle.std.proofs.Common.{◌≡◌, ◌+◌, ◌-◌, ◌^◌, ◌≤◌, min, drop}
use Rattle.ipam_select.specs.Printing.{values_len}
use Rattle.ipam_select.proofs.counting.values_len.Given as goal

abbrev pub invariant-loop-value : goal.invariant-loop-value
invariant-loop-value l =
    (l.total ≤ 2 ^ 64 - 1)
    × (min (l.total + values_len l.lead (drop l.value-index l.values)) (2 ^ 64 - 1) ≡ min (values_len 0 l.values) (2 ^ 64 - 1))
