use Rattle.std.proofs.Common.{rules}
use Rattle.ipam_operator.proofs.Sorted.{sorted_by_key}
use Rattle.ipam_operator.proofs.getting.by_key.Goals as goal

pub returns-clause-sorted : goal.returns-clause-sorted
returns-clause-sorted c = sorted_by_key _ c.sort_unstable_by.ensures.sorted (λ a r f' k. search rules)
