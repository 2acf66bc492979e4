use Rattle.std.proofs.Common.{◌≡◌, drop}
use Rattle.ipam_call.specs.Values.{found, last_value, value_from}
use Rattle.ipam_call.proofs.values.last_value.Given as goal

-- what is found among the entries to come, or else was found before, is the value
abbrev pub invariant-loop-entry : goal.invariant-loop-entry
invariant-loop-entry l = value_from l.name (found l.value) (drop l.entry-index l.entries) ≡ last_value l.name l.entries
