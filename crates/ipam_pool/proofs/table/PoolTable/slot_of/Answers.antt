use Rattle.std.proofs.Common.{subst}
use Rattle.ipam_pool.specs.Sound.{IsPoolTable}
use Rattle.ipam_pool.proofs.SlotsLemmas.{at_most_one}
use Rattle.ipam_pool.proofs.table.PoolTable.slot_of.Goals as goal

pub returns-in-Some-clause-only : goal.returns-in-Some-clause-only
returns-in-Some-clause-only c = at_most_one _ _ (subst IsPoolTable c.self.view_is c.self.invariant)

pub returns-clause-only : goal.returns-clause-only
returns-clause-only c = at_most_one _ _ (subst IsPoolTable c.self.view_is c.self.invariant)
