use Rattle.std.proofs.Common.{◌-◌, ◌+◌, ◌≤◌}
use Rattle.std.specs.Vec.{vec_len, vec_capacity}
use Rattle.ipam_play.specs.Times.{IsTimed}
use Rattle.ipam_play.proofs.Restarts.{Cleared}
use Rattle.ipam_play.proofs.playing.restart.Given as goal

abbrev pub invariant-loop-slot : goal.invariant-loop-slot
invariant-loop-slot l = record {
  cleared : Cleared l.initial.cluster.cluster l.cluster.cluster l.initial.journal.items l.journal.items l.slot;
  room : vec_len l.journal + (64 - l.slot) ≤ vec_capacity l.journal;
  timed : IsTimed l.cluster;
}
