use Rattle.std.proofs.Common.{◌≡◌, ◌++◌, drop}
use Rattle.std.specs.List.{filter_map}
use Rattle.ipam_commands.specs.Reported.{excess_at}
use Rattle.ipam_commands.proofs.audit_excess.add_of_handle.Given as goal

abbrev pub invariant-loop-entry : goal.invariant-loop-entry
invariant-loop-entry l =
    l.found.items ++ filter_map (excess_at l.store.store l.handle.id) (drop l.entry-index l.entry-items)
    ≡ l.initial.found.items ++ filter_map (excess_at l.store.store l.handle.id) l.handle.counts
