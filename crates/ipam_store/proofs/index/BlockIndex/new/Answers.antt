use Rattle.std.specs.List.Sorted.{IsStrictlySortedBy}
use Rattle.ipam_store.proofs.index.BlockIndex.new.Goals as goal

pub invariant_of-result : goal.invariant_of-result
unfolding IsStrictlySortedBy
invariant_of-result c = record { unowned = rw c.new-2.ensures.items tt; roomy = rw c.new-3.ensures.items tt }
