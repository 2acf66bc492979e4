use Rattle.std.proofs.Common.{◌≡◌, ◌++◌, true, drop}
use Rattle.std.specs.String.{string_bytes}
use Rattle.ipam_select.specs.Printing.{values_text}
use Rattle.ipam_select.proofs.printing.push_values.Given as goal

abbrev pub invariant-loop-value : goal.invariant-loop-value
invariant-loop-value l =
    string_bytes l.fn.out ++ values_text true l.values ≡ string_bytes l.out ++ values_text l.first (drop l.value-index l.values)
