use Rattle.std.proofs.Common.{◌≡◌, ◌++◌, drop}
use Rattle.std.specs.String.{string_bytes}
use Rattle.ipam_commands.specs.Printed.{affinity_lines}
use Rattle.ipam_commands.proofs.audit_printed.push_affinity_lines.Given as goal

abbrev pub invariant-loop-affinity : goal.invariant-loop-affinity
invariant-loop-affinity l = string_bytes l.out ++ affinity_lines l.word (drop l.affinity-index l.affinities) ≡ string_bytes l.initial.out ++ affinity_lines l.word l.affinities
