use Rattle.std.proofs.Common.{arith}
use Rattle.std.proofs.lemmas.Grind.{text_counts}
use Rattle.ipam_opening.proofs.counts.held_counts.Goals as goal

pub loop-allocation-preserved : goal.loop-allocation-preserved
loop-allocation-preserved c = grind (arith, text_counts)

pub overflow_add-counts : goal.overflow_add-counts
overflow_add-counts c = grind (arith, text_counts)
