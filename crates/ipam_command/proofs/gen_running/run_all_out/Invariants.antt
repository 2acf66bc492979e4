use Rattle.std.proofs.Common.{◌≡◌, ℕ, ◌<◌, None}
use Rattle.ipam_cluster.specs.Cluster.{slot_of_cluster}
use Rattle.ipam_command.specs.Counted.{Leads}
use Rattle.ipam_command.specs.Generated.{AreRunOut}
use Rattle.ipam_command.proofs.gen_running.run_all_out.Given as goal

abbrev pub invariant-loop-slot : goal.invariant-loop-slot
invariant-loop-slot l = record {
  runs : Leads l.initial.counted l.counted (λ before. AreRunOut before l.slot);
  idle : (other : ℕ) → other < l.slot → slot_of_cluster l.counted.cluster other ≡ None;
}
