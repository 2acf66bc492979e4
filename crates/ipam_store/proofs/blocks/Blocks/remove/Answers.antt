use Rattle.ipam_records.specs.KeyRef.{owned_key}
use Rattle.ipam_store.proofs.Rewriting.{AreBlocks-without_row}
use Rattle.ipam_store.proofs.blocks.Blocks.remove.Goals as goal

pub invariant_of-self : goal.invariant_of-self
invariant_of-self c = record {
  blocks = rw c.remove.ensures.rows (AreBlocks-without_row (owned_key c.args.key.now) c.self.inside.rows.rows c.self.invariant.blocks);
  index = rw c.remove.ensures.rows c.forget.ensures.index;
}
