use Rattle.ipam_store.proofs.Kept.{IsKept-none}
use Rattle.ipam_store.proofs.store.Store.new.Goals as goal

pub invariant_of-result : goal.invariant_of-result
invariant_of-result c =
    rw (c.new.ensures.rows, c.new-2.ensures.rows, c.new-3.ensures.rows, c.new-4.ensures.rows) (IsKept-none c.args.counter c.requires)
