use Rattle.std.proofs.Common.{◌≡◌, ◌++◌, drop}
use Rattle.std.specs.List.{flat_map}
use Rattle.std.specs.String.{string_bytes}
use Rattle.ipam_commands.specs.Printed.{excess_line}
use Rattle.ipam_commands.proofs.audit_printed.push_excess_lines.Given as goal

abbrev pub invariant-loop-one : goal.invariant-loop-one
invariant-loop-one l = string_bytes l.out ++ flat_map excess_line (drop l.one-index l.excess) ≡ string_bytes l.initial.out ++ flat_map excess_line l.excess
