use Rattle.std.proofs.Common.{◌≡◌, drop}
use Rattle.ipam_operator.specs.Filling.{filled}
use Rattle.ipam_operator.proofs.filling.put_all.Given as goal

-- the rows that are in, and those that are still to be put in
abbrev pub invariant-loop-row : goal.invariant-loop-row
invariant-loop-row g l = record {
  filled : filled (drop l.row-index l.rows) (g.D.Keeper.rows l.target) ≡ filled l.rows (g.D.Keeper.rows l.initial.target);
  faults : g.D.Keeper.faults l.target ≡ g.D.Keeper.faults l.initial.target;
}
