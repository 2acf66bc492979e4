use Rattle.std.proofs.Common.{◌≡◌, rules}
use Rattle.ipam_cluster.proofs.RowTexts.{sorted_ascend, sorted_by_key}
use Rattle.ipam_cluster.proofs.rows.rows_by_key.Goals as goal

pub returns-clause-by_key : goal.returns-clause-by_key
returns-clause-by_key c =
    sorted_ascend c.args.store.now.store c.in_ok-rows.rows.items _ c.rely_on_soundness.ensures c.in_ok-rows.ensures c.sort_unstable_by.ensures.permutation
    (sorted_by_key _ c.sort_unstable_by.ensures.sorted (λ a r f' k. search rules))
