use Rattle.std.proofs.Common.{◌∙◌, ap}
use Rattle.std.specs.Prelude.{nat_lt}
use Rattle.ipam_block.specs.Operations.{is_stamped}
use Rattle.ipam_block.proofs.Freeing.{list_any-count}
use Rattle.ipam_block.proofs.block_record.Block.free_stamped.Goals as goal

pub returns-clause-found : goal.returns-clause-found
returns-clause-found c =
    ap (λ n. nat_lt 0 n) c.free.ensures.count
    ∙ list_any-count (is_stamped c.args.ordinal c.args.handle.now c.args.stamp) c.args.self.now.allocations
