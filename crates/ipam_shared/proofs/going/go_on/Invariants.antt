use Rattle.ipam_shared.proofs.going.go_on.Given as goal

-- from where it began it came here by steps, and may go on
abbrev pub invariant-loop-answer : goal.invariant-loop-answer
invariant-loop-answer g l = record {
  runs : g.G.Going.runs l.going l.kept;
  goes : g.G.Going.goes l.going l.initial.kept l.kept;
}

abbrev pub decreases-loop-answer : goal.decreases-loop-answer
decreases-loop-answer g l = g.G.Going.left l.going l.kept
