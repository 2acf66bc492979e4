use Rattle.std.proofs.Common.{◌-◌, ◌^◌}
use Rattle.ipam_command.specs.Counted.{Goes}
use Rattle.ipam_command.proofs.gen_collecting.run.Given as goal

abbrev pub invariant-loop-counted : goal.invariant-loop-counted
invariant-loop-counted l = Goes l.initial.counted l.counted l.live l.freed

-- how many entries there may still be
abbrev pub decreases-loop-counted : goal.decreases-loop-counted
decreases-loop-counted l = 2 ^ 62 - l.counted.cluster.entries
