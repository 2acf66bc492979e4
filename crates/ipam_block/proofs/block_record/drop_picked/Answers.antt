use Rattle.std.proofs.Common.{rules}
use Rattle.std.specs.Prelude.{not}
use Rattle.std.proofs.lemmas.Fn.{filter_same}
use Rattle.ipam_block.specs.Picked.{picks}
use Rattle.ipam_block.proofs.block_record.drop_picked.Goals as goal

pub returns-clause-items : goal.returns-clause-items
returns-clause-items c =
    filter_same _ (λ a. not (picks c.args.which.now a)) _ (λ x b g q. search rules) _ _ c.retain.ensures.filtered
