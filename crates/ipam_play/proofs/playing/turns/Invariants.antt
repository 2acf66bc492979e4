use Rattle.std.specs.Prelude.{replicate}
use Rattle.ipam_model.specs.declared.entry.Fate.TheVariants.{Well}
use Rattle.ipam_model.specs.Course.{Turn}
use Rattle.ipam_play.specs.Events.{Happens}
use Rattle.ipam_play.specs.Times.{StandsTimed}
use Rattle.ipam_play.proofs.playing.turns.Given as goal

abbrev pub invariant-loop-done : goal.invariant-loop-done
invariant-loop-done l = record {
  happens : Happens l.initial.cluster.cluster l.cluster.cluster l.initial.journal.items l.journal.items (replicate l.done (Turn l.slot Well));
  standing : StandsTimed l.cluster;
}
