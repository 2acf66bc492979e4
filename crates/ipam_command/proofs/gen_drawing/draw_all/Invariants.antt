use Rattle.std.proofs.Common.{◌≤◌, ◌-◌, ◌^◌}
use Rattle.ipam_command.specs.Counted.{IsDrawing}
use Rattle.ipam_command.proofs.gen_drawing.draw_all.Given as goal

abbrev pub invariant-loop-begun : goal.invariant-loop-begun
invariant-loop-begun l = record {
  drawing : IsDrawing l.requests l.counted l.draws.x l.begun;
  few : l.begun ≤ l.requests;
}

-- how many entries there may still be
abbrev pub decreases-loop-begun : goal.decreases-loop-begun
decreases-loop-begun l = 2 ^ 62 - l.counted.cluster.entries
