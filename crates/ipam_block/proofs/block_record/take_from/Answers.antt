use Rattle.std.proofs.Common.{rules}
use Rattle.std.specs.Prelude.{not, ◌==◌}
use Rattle.std.proofs.lemmas.Fn.{filter_same}
use Rattle.ipam_block.proofs.block_record.take_from.Goals as goal

pub returns-clause-items : goal.returns-clause-items
returns-clause-items c =
    filter_same _ (λ o. not (o == c.args.ordinal)) _ (λ x b g q. search rules) _ _ c.retain.ensures.filtered
