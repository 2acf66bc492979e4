use Rattle.std.proofs.Common.{◌≡◌, ℕ, ◌-◌, ◌^◌}
use Rattle.ipam_cluster.specs.Cluster.{slot_of_cluster}
use Rattle.ipam_command.specs.Counted.{Leads}
use Rattle.ipam_command.specs.Generated.{TakesTurns}
use Rattle.ipam_command.proofs.gen_running.run_out.Given as goal

abbrev pub invariant-loop-counted : goal.invariant-loop-counted
invariant-loop-counted l = record {
  turns : Leads l.initial.counted l.counted (TakesTurns l.slot);
  others : (other : ℕ) → ¬ (other ≡ l.slot) → slot_of_cluster l.counted.cluster other ≡ slot_of_cluster l.initial.counted.cluster other;
}

-- how many entries there may still be
abbrev pub decreases-loop-counted : goal.decreases-loop-counted
decreases-loop-counted l = 2 ^ 62 - l.counted.cluster.entries
