use Rattle.std.proofs.Common.{refl}
use Rattle.ipam_store.proofs.Listed.{AreBlocks-none}
use Rattle.ipam_store.proofs.blocks.Blocks.new.Goals as goal

pub invariant_of-result : goal.invariant_of-result
invariant_of-result c = record {
  blocks = rw c.new.ensures.rows AreBlocks-none;
  index = rw (c.new.ensures.rows, c.new-2.ensures.owned, c.new-2.ensures.unowned, c.new-2.ensures.roomy) (record { of_node = λ node. refl; unowned_is = refl; roomy_is = refl });
}
