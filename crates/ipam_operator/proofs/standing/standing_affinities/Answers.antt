use Rattle.std.proofs.Common.{rules}
use Rattle.std.proofs.lemmas.Fn.{filter_same}
use Rattle.ipam_operator.specs.Standing.{has_affinity}
use Rattle.ipam_operator.proofs.standing.standing_affinities.Goals as goal

pub returns : goal.returns
returns c = filter_same _ (has_affinity c.args.first.now) _ (λ x b g q. search rules) _ _ c.retain.ensures.filtered
