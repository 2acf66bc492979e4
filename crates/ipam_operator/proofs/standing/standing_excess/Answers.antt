use Rattle.std.proofs.Common.{rules}
use Rattle.std.proofs.lemmas.Fn.{filter_same}
use Rattle.ipam_operator.specs.Standing.{has_excess}
use Rattle.ipam_operator.proofs.standing.standing_excess.Goals as goal

pub returns : goal.returns
returns c = filter_same _ (has_excess c.args.first.now) _ (λ x b g q. search rules) _ _ c.retain.ensures.filtered
