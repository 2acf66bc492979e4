use Rattle.std.proofs.Common.{ap, arith, length, rules}
use Rattle.std.proofs.lemmas.List.Sums.{count_by-le-length, length-filter}
use Rattle.std.proofs.lemmas.Fn.{filter_same}
use Rattle.ipam_show.specs.Scopes.{is_of_node}
use Rattle.ipam_views.proofs.own_counts.of_node.Goals as goal

pub returns-clause-counts : goal.returns-clause-counts
returns-clause-counts c = filter_same _ (is_of_node c.args.node.now) _ (λ x b g q. search rules) _ _ c.retain.ensures.filtered

pub returns-clause-few : goal.returns-clause-few
returns-clause-few c =
    let own = is_of_node c.args.node.now in
    let counts = c.args.counts.items in
    let kept = ap length (filter_same _ own _ (λ x b g q. search rules) _ _ c.retain.ensures.filtered) in
    let some = length-filter own counts in
    let few = count_by-le-length own counts in
    omega arith
